use Rattle.std.proofs.Common.{[], ◌∷◌, ◌++◌, cond, sym, ap, ◌∙◌}
use Rattle.model_defs.specs.Phases.{MakePlan, Send}
use Rattle.phase_list.specs.Walks.{walked}
use Rattle.phase_list.proofs.Walking.{walks-then}
use Rattle.phase_list.proofs.walk.add_transfer.Goals as goal

pub returns : goal.returns
returns c = λ rest.
    ap (λ b. walked c.args.job.now c.args.walk.now (cond b [] (MakePlan c.args.k c.args.plan ∷ Send c.args.k c.args.stage ∷ []) ++ rest)) (sym c.is_local.ensures ∙ c.if-is_local.false)
    ∙ walks-then c.args.job.now c.args.walk.now c.make_plan.new.walk c.send.new.walk (MakePlan c.args.k c.args.plan ∷ []) (Send c.args.k c.args.stage ∷ [])
    c.in_ok-make_plan.ensures c.in_ok-send.ensures rest
