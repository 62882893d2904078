use Rattle.std.proofs.Common.{◌≡◌, take, Some}
use Rattle.tables.specs.Sums.{total, if_there, both_or_one}
use Rattle.map_core.specs.Layouts.{local_index}
use Rattle.crs_matrix.specs.Matrices.{number_at_place}
use Rattle.multivector.specs.Vectors.{vector_table}
use Rattle.model_defs.specs.Operations.{times_there}
use Rattle.spmv.proofs.apply.row_sum.Given as goal

abbrev pub invariant-loop-at : goal.invariant-loop-at
invariant-loop-at g l = Some l.sum ≡ both_or_one g.S.Scalar.semiring.plus (Some l.fn.first)
    (total (if_there g.S.Scalar.semiring.plus) (λ c. times_there g.S.Scalar.semiring (number_at_place l.numbers (local_index l.columns c)) (vector_table l.x c l.col)) (take l.at l.columns))
