use Rattle.std.proofs.Common.{◌≡◌, ◌++◌, [], get_or, take}
use Rattle.crs_matrix.specs.ByRow.{by_row}
use Rattle.rank_matrices.specs.Rows.{row_cells}
use Rattle.rank_matrices.proofs.cells.add_row.Given as goal

abbrev pub invariant-loop-at : goal.invariant-loop-at
invariant-loop-at g l = l.cells.items ≡ l.fn.cells.items ++ row_cells l.row (take l.at (get_or (by_row l.matrix).cells l.lid []))
