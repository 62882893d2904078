-- What the phases of a job are about, and in which order they come.
use Rattle.value_phases.proofs.NumberedPhases.{jobs-have-value-phases}
use Rattle.value_phases.proofs.laws.jobs_have_value_phases.Goals as goal

pub returns : goal.returns
returns c = jobs-have-value-phases
