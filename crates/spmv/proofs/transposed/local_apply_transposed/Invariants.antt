use Rattle.std.proofs.Common.{◌≡◌, ℕ}
use Rattle.tables.specs.Sums.{both_or_one, if_there, total_below}
use Rattle.crs_matrix.specs.Matrices.{crs_local}
use Rattle.model_defs.specs.Operations.{times_there}
use Rattle.multivector.specs.Vectors.{vector_table}
use Rattle.spmv.proofs.transposed.local_apply_transposed.Given as goal

abbrev pub invariant-loop-lid : goal.invariant-loop-lid
invariant-loop-lid g l = record {
  same_map : l.y.map ≡ l.initial.y.map;
  same_columns : l.y.columns ≡ l.initial.y.columns;
  done : (i k : ℕ) → vector_table l.y i k ≡ both_or_one g.S.Scalar.semiring.plus (vector_table l.initial.y i k)
      (total_below (if_there g.S.Scalar.semiring.plus) l.lid (λ r. times_there g.S.Scalar.semiring (crs_local l.a r i) (vector_table l.x r k)));
}
