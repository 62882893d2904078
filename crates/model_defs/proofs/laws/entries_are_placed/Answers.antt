use Rattle.model_defs.proofs.Placed.{entries_are_placed}
use Rattle.model_defs.proofs.laws.entries_are_placed.Goals as goal

pub returns : goal.returns
returns g c = entries_are_placed g.S.Scalar.semiring g.S.Scalar.conversions
