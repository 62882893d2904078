use Rattle.model_defs.proofs.Machine.{row_laws_suffice}
use Rattle.model_defs.proofs.laws.row_laws_suffice.Goals as goal

pub returns : goal.returns
returns g c = row_laws_suffice g.met.S.Scalar.laws g.met.S.Scalar.conversion_laws
