use Rattle.model_defs.proofs.AllRows.{machine_is_eval}
use Rattle.model_defs.proofs.laws.jobs_are_computed.Goals as goal

pub returns : goal.returns
returns g c = machine_is_eval g.met.S.Scalar.laws g.met.S.Scalar.conversion_laws
