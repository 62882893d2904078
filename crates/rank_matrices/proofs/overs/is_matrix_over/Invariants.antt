use Rattle.std.proofs.Common.{◌≡◌, ℕ, ◌<◌, false}
use Rattle.crs_matrix.specs.Matrices.{numbers}
use Rattle.rank_matrices.specs.Rows.{has_over}
use Rattle.rank_matrices.proofs.overs.is_matrix_over.Given as goal

abbrev pub invariant-loop-lid : goal.invariant-loop-lid
invariant-loop-lid g l = (k : ℕ) → k < l.lid → has_over g.S.Scalar.conversions (numbers l.matrix k) ≡ false
