use Rattle.std.proofs.lemmas.Result.{IfErr-at_err}
use Rattle.mm_text.specs.Outcomes.{IsTextFault}
use Rattle.mm_text.proofs.FaultLemmas.{reading_fits}
use Rattle.mm_text.proofs.laws.text_faults.Goals as goal

pub returns : goal.returns
returns c = λ profile text fault has. IfErr-at_err IsTextFault has (reading_fits profile text)
