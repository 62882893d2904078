use Rattle.std.proofs.Common.{◌≡◌, map, take}
use Rattle.rank_plans.specs.Answers.{known_at, owner_if_known}
use Rattle.rank_plans.proofs.looked_up.target_owners_by_index.Given as goal

abbrev pub invariant-loop-lid : goal.invariant-loop-lid
invariant-loop-lid l = l.owners.items ≡ map (owner_if_known l.me l.source (known_at l.gids l.known)) (take l.lid l.target)
