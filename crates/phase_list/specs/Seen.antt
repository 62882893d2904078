-- What makes a value, as the code holds it.
use Rattle.model_defs.specs.declared.job.Step.TheVariants as step
use Rattle.model_defs.specs.Makers.{Maker, GivenVector, GivenParts, GivenMatrix, Made}
use Rattle.phase_list.specs.declared.maker.MadeBy.{MadeBy}
use Rattle.phase_list.specs.declared.maker.MadeBy.TheVariants as by

-- nothing makes a value that is not there, as a statement without a value
abbrev pub maker_seen : MadeBy → Maker
maker_seen (by.Vector spec) = GivenVector spec.now
maker_seen (by.Parts spec) = GivenParts spec.now
maker_seen (by.Matrix spec) = GivenMatrix spec.now
maker_seen (by.Statement step) = Made step.now
maker_seen by.Nothing = Made (step.Print 0)
