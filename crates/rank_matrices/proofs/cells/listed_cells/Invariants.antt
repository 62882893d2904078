use Rattle.std.proofs.Common.{◌≡◌}
use Rattle.crs_matrix.specs.ByRow.{by_row}
use Rattle.rank_matrices.specs.Rows.{first_rows}
use Rattle.rank_matrices.proofs.cells.listed_cells.Given as goal

abbrev pub invariant-loop-lid : goal.invariant-loop-lid
invariant-loop-lid g l = l.cells.items ≡ first_rows (by_row l.matrix) l.lid
