use Rattle.std.proofs.Common.{◌≡◌, drop}
use Rattle.std.specs.List.{list_any}
use Rattle.model_defs.specs.Transfers.{same_plan}
use Rattle.phase_list.proofs.plans.is_made.Given as goal

abbrev pub invariant-loop-earlier : goal.invariant-loop-earlier
invariant-loop-earlier l = list_any (same_plan l.plan) l.made ≡ list_any (same_plan l.plan) (drop l.earlier-index l.made)
