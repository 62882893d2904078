use Rattle.std.proofs.Common.{length}
use Rattle.crs_matrix.specs.Rows.{local_table}
use Rattle.sparse_product.proofs.WholeProduct.{IsBuilt}
use Rattle.sparse_product.proofs.product.local_product.Given as goal

abbrev pub invariant-loop-lid : goal.invariant-loop-lid
invariant-loop-lid g l = IsBuilt g.S.Scalar.semiring (length l.columns.items) l.lid l.a (local_table l.b) l.row l.product
