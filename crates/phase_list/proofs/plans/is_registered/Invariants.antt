use Rattle.std.proofs.Common.{◌≡◌, drop, eqb}
use Rattle.std.specs.List.{list_any}
use Rattle.model_defs.specs.ShapeLists.{at_list}
use Rattle.phase_list.specs.ByShapes.{owners_by}
use Rattle.phase_list.proofs.plans.is_registered.Given as goal

abbrev pub invariant-loop-plan : goal.invariant-loop-plan
invariant-loop-plan l =
    list_any (λ plan. eqb (owners_by (at_list l.shapes) plan) l.map) l.made
    ≡ list_any (λ plan. eqb (owners_by (at_list l.shapes) plan) l.map) (drop l.plan-index l.made)
