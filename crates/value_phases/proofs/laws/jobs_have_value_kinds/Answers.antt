-- The values of a job.
use Rattle.value_phases.proofs.ValueKinds.{jobs-have-value-kinds}
use Rattle.value_phases.proofs.laws.jobs_have_value_kinds.Goals as goal

pub returns : goal.returns
returns c = jobs-have-value-kinds
