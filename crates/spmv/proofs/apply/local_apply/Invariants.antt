use Rattle.std.proofs.Common.{◌≡◌, ℕ, cond, length, nat_lt}
use Rattle.tables.specs.Sums.{both_or_one}
use Rattle.crs_matrix.specs.Matrices.{crs_local}
use Rattle.multivector.specs.Vectors.{vector_table}
use Rattle.model_defs.specs.Operations.{product}
use Rattle.spmv.proofs.apply.local_apply.Given as goal

abbrev pub invariant-loop-lid : goal.invariant-loop-lid
invariant-loop-lid g l = record {
  same_map : l.y.map ≡ l.initial.y.map;
  same_columns : l.y.columns ≡ l.initial.y.columns;
  done : (i k : ℕ) → vector_table l.y i k ≡ cond (nat_lt i l.lid)
      (both_or_one g.S.Scalar.semiring.plus (vector_table l.initial.y i k) (product g.S.Scalar.semiring (length l.a.graph.cols) (crs_local l.a) (vector_table l.x) i k))
      (vector_table l.initial.y i k);
}
