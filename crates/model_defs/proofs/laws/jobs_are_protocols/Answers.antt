use Rattle.model_defs.proofs.Protocols.{jobs_are_protocols}
use Rattle.model_defs.proofs.laws.jobs_are_protocols.Goals as goal

pub returns : goal.returns
returns g c = jobs_are_protocols g.S.Scalar.semiring g.S.Scalar.conversions
