use Rattle.std.proofs.Common.{◌≡◌}
use Rattle.rank_values.specs.Rows.{rows_of}
use Rattle.rank_values.proofs.cells.listed_cells.Given as goal

abbrev pub invariant-loop-lid : goal.invariant-loop-lid
invariant-loop-lid g l = l.cells.items ≡ rows_of l.vector l.lid
