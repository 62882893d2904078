use Rattle.std.proofs.Common.{◌≡◌, ◌&&◌, ◌==◌, ℕ, Some, cond, nat_lt}
use Rattle.tables.specs.Sums.{both_or_one}
use Rattle.model_defs.specs.Operations.{times_there}
use Rattle.multivector.specs.Vectors.{vector_table}
use Rattle.spmv.proofs.transposed.spread_place.Given as goal

abbrev pub invariant-loop-col : goal.invariant-loop-col
invariant-loop-col g l = record {
  same_map : l.y.map ≡ l.initial.y.map;
  same_columns : l.y.columns ≡ l.initial.y.columns;
  done : (i k : ℕ) → vector_table l.y i k ≡ cond ((l.to == i) && nat_lt k l.col)
      (both_or_one g.S.Scalar.semiring.plus (vector_table l.initial.y i k) (times_there g.S.Scalar.semiring (Some l.number) (vector_table l.x l.lid k)))
      (vector_table l.initial.y i k);
}
