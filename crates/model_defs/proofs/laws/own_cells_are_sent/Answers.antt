use Rattle.model_defs.proofs.OwnCells.{own_cells_are_sent}
use Rattle.model_defs.proofs.laws.own_cells_are_sent.Goals as goal

pub returns : goal.returns
returns g c = own_cells_are_sent g.S.Scalar.semiring g.S.Scalar.conversions
