-- The columns of the rank's matrix under construction.
use Rattle.rank_makings.proofs.Columns.{fills-have-columns}
use Rattle.rank_makings.proofs.laws.fills_have_columns.Goals as goal

pub returns : goal.returns
returns g c = record { columns = fills-have-columns g.S.Scalar.semiring g.S.Scalar.conversions }
