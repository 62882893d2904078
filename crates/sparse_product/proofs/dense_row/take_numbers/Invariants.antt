use Rattle.std.proofs.Common.{◌≡◌, drop}
use Rattle.crs_matrix.specs.Rows.{local_table}
use Rattle.sparse_product.proofs.DenseRows.{IsTaking}
use Rattle.sparse_product.proofs.dense_row.take_numbers.Given as goal

abbrev pub invariant-loop-place : goal.invariant-loop-place
invariant-loop-place g l = record {
  rows : l.target.rows ≡ l.fn.target.rows;
  taking : IsTaking g.S.Scalar.semiring (drop l.place-index l.reached) l.columns l.lid l.fn.numbers.items l.numbers.items (local_table l.fn.target) (local_table l.target);
}
