use Rattle.std.proofs.Common.{◌≡◌, ◌++◌, Some, drop, map, take}
use Rattle.rank_plans.proofs.task.accept_all.Given as goal

abbrev pub invariant-loop-at : goal.invariant-loop-at
invariant-loop-at l = l.import ≡ record l.fn.import { wants = map (λ v. Some v.items) (take l.at l.told) ++ drop l.at l.fn.import.wants }
