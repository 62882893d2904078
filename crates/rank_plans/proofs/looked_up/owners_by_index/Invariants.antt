use Rattle.std.proofs.Common.{◌≡◌, map, take}
use Rattle.rank_plans.specs.Answers.{known_at, owner_by}
use Rattle.rank_plans.proofs.looked_up.owners_by_index.Given as goal

abbrev pub invariant-loop-gid : goal.invariant-loop-gid
invariant-loop-gid l = l.owners.items ≡ map (owner_by l.me l.own (known_at l.gids l.known)) (take l.gid-index l.asked)
