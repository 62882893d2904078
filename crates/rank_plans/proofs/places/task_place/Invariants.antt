use Rattle.std.proofs.Common.{◌≡◌, ◌+◌, drop}
use Rattle.std.specs.List.{position_or_len}
use Rattle.model_defs.specs.Transfers.{same_plan}
use Rattle.rank_plans.proofs.places.task_place.Given as goal

abbrev pub invariant-loop-at : goal.invariant-loop-at
invariant-loop-at l = position_or_len (λ t. same_plan l.plan t.plan) l.plans ≡ l.at + position_or_len (λ t. same_plan l.plan t.plan) (drop l.at l.plans)
