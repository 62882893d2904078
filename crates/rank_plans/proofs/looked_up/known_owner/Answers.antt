use Rattle.rank_plans.proofs.LookedUp.{known-found, known-missing}
use Rattle.rank_plans.proofs.looked_up.known_owner.Goals as goal

pub returns-in-Some : goal.returns-in-Some
returns-in-Some c = record { owner = known-found c.args.set.now.keys c.args.known.now c.args.gid c.in-Some.place c.requires.beside c.in-Some.ensures.index }

pub returns-in-None : goal.returns-in-None
returns-in-None c = record { owner = known-missing c.args.set.now.keys c.args.known.now c.args.gid c.requires.beside c.in-None.ensures.index }
