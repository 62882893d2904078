use Rattle.std.proofs.Common.{◌≡◌, false}
use Rattle.rank_values.specs.Rows.{is_row_over}
use Rattle.rank_values.proofs.cells.is_row_over.Given as goal

abbrev pub invariant-loop-col : goal.invariant-loop-col
invariant-loop-col g l = is_row_over g.S.Scalar.conversions l.vector l.lid l.col ≡ false
