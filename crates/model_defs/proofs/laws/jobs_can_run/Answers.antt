use Rattle.model_defs.proofs.Complete.{jobs_can_run}
use Rattle.model_defs.proofs.laws.jobs_can_run.Goals as goal

pub returns : goal.returns
returns g c = jobs_can_run g.S.Scalar.semiring g.S.Scalar.conversions
