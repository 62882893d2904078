use Rattle.job_phases.proofs.ByPhase.{jobs_go_by_phase}
use Rattle.job_phases.proofs.laws.jobs_go_by_phase.Goals as goal

pub returns : goal.returns
returns g c = jobs_go_by_phase g.S.Scalar.semiring g.S.Scalar.conversions
