use Rattle.crs_matrix.specs.ByRow.{by_row}
use Rattle.sparse_product.proofs.RowSums.{IsAdded}
use Rattle.sparse_product.proofs.add.local_add.Given as goal

abbrev pub invariant-loop-lid : goal.invariant-loop-lid
invariant-loop-lid g l = IsAdded g.S.Scalar.semiring l.alpha l.beta l.lid (by_row l.a) l.b l.sum
