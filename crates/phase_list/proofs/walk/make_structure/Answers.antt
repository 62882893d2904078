use Rattle.std.proofs.Common.{[], ◌∷◌, ◌++◌, ap, ◌∙◌}
use Rattle.model_defs.specs.declared.phase.Plan.TheVariants.{ColumnPlan, RowPlan}
use Rattle.model_defs.specs.Phases.{MakePlan, plan_acts, structure_plans}
use Rattle.phase_list.specs.Walks.{walked}
use Rattle.phase_list.proofs.Walking.{walks-then}
use Rattle.phase_list.proofs.walk.make_structure.Goals as goal

pub returns-in_ok-make_plan-in-Split-2 : goal.returns-in_ok-make_plan-in-Split-2
returns-in_ok-make_plan-in-Split-2 c = λ rest.
    ap (λ s. walked c.args.job.now c.args.walk.now (plan_acts c.args.k (structure_plans c.args.k s) ++ rest)) c.in-Split.is
    ∙ walks-then c.args.job.now c.args.walk.now c.make_plan-in-Split.new.walk c.make_plan-in-Split-2.new.walk (MakePlan c.args.k (ColumnPlan c.args.k) ∷ []) (MakePlan c.args.k (RowPlan c.args.k) ∷ [])
    c.in_ok-make_plan-in-Split.ensures c.in_ok-make_plan-in-Split-2.ensures rest
