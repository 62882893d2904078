use Rattle.model_defs.proofs.Phases.{stages_are_in_order}
use Rattle.model_defs.proofs.laws.stages_are_in_order.Goals as goal

pub returns : goal.returns
returns c = stages_are_in_order
