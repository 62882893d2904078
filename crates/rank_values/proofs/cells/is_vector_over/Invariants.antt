use Rattle.std.proofs.Common.{◌≡◌, ℕ, ◌<◌, false}
use Rattle.rank_values.specs.Rows.{is_row_over}
use Rattle.rank_values.proofs.cells.is_vector_over.Given as goal

abbrev pub invariant-loop-lid : goal.invariant-loop-lid
invariant-loop-lid g l = (k : ℕ) → k < l.lid → is_row_over g.S.Scalar.conversions l.vector k l.vector.columns ≡ false
