use Rattle.std.proofs.Common.{◌≡◌, ℕ, cond, take}
use Rattle.tables.specs.Sums.{both_or_one}
use Rattle.map_core.specs.Layouts.{local_index, stands}
use Rattle.crs_matrix.specs.Matrices.{number_at_place}
use Rattle.model_defs.specs.Operations.{times_there}
use Rattle.multivector.specs.Vectors.{vector_table}
use Rattle.spmv.proofs.transposed.spread_row.Given as goal

abbrev pub invariant-loop-at : goal.invariant-loop-at
invariant-loop-at g l = record {
  same_map : l.y.map ≡ l.initial.y.map;
  same_columns : l.y.columns ≡ l.initial.y.columns;
  done : (i k : ℕ) → vector_table l.y i k ≡ cond (stands i (take l.at l.columns))
      (both_or_one g.S.Scalar.semiring.plus (vector_table l.initial.y i k) (times_there g.S.Scalar.semiring (number_at_place l.numbers (local_index l.columns i)) (vector_table l.x l.lid k)))
      (vector_table l.initial.y i k);
}
