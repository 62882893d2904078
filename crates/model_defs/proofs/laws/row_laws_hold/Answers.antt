use Rattle.model_defs.proofs.AllRows.{row_laws}
use Rattle.model_defs.proofs.laws.row_laws_hold.Goals as goal

pub returns : goal.returns
returns g c = row_laws g.met.S.Scalar.laws
