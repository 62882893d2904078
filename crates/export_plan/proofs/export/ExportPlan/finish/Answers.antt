use Rattle.std.proofs.Common.{ap, ◌∙◌}
use Rattle.map_core.specs.Plans.{reversed}
use Rattle.export_plan.specs.Exports.{export_lists}
use Rattle.export_plan.proofs.export.ExportPlan.finish.Goals as goal

pub returns-clause-plan : goal.returns-clause-plan
returns-clause-plan c = c.reverse.ensures.reversed ∙ ap reversed c.in_ok-plan.ensures.plan ∙ ap export_lists c.self.view_is
