use Rattle.std.proofs.Common.{◌≡◌, None, map, take}
use Rattle.rank_plans.proofs.task.unknown_owners.Given as goal

abbrev pub invariant-loop : goal.invariant-loop
invariant-loop l = l.owners.items ≡ map (λ _. None) (take l.index l.gids)
