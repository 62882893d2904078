use Rattle.std.proofs.Common.{◌≡◌, ◌++◌}
use Rattle.rank_values.specs.Rows.{row_of}
use Rattle.rank_values.proofs.cells.add_row.Given as goal

abbrev pub invariant-loop-col : goal.invariant-loop-col
invariant-loop-col g l = l.cells.items ≡ l.initial.cells.items ++ row_of l.vector l.lid l.row l.col
