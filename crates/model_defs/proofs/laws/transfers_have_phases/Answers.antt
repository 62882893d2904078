use Rattle.model_defs.proofs.PhaseFacts.{transfers-have-phases}
use Rattle.model_defs.proofs.laws.transfers_have_phases.Goals as goal

pub returns : goal.returns
returns c = transfers-have-phases
