use Rattle.std.proofs.Common.{◌≡◌, ◌&&◌, ◌==◌, ℕ, cond, length, nat_lt}
use Rattle.tables.specs.Sums.{both_or_one}
use Rattle.multivector.specs.Vectors.{vector_table}
use Rattle.spmv.specs.Applied.{row_product}
use Rattle.spmv.proofs.apply.apply_row.Given as goal

abbrev pub invariant-loop-col : goal.invariant-loop-col
invariant-loop-col g l = record {
  same_map : l.y.map ≡ l.initial.y.map;
  same_columns : l.y.columns ≡ l.initial.y.columns;
  done : (i k : ℕ) → vector_table l.y i k ≡ cond ((l.lid == i) && nat_lt k l.col)
      (both_or_one g.S.Scalar.semiring.plus (vector_table l.initial.y i k) (row_product g.S.Scalar.semiring (length l.x.map) l.columns l.numbers (vector_table l.x) k))
      (vector_table l.initial.y i k);
}
