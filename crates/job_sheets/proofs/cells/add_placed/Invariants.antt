use Rattle.std.proofs.Common.{◌≡◌, ◌++◌, map, take}
use Rattle.job_sheets.specs.Cells.{placed}
use Rattle.job_sheets.proofs.cells.add_placed.Given as goal

abbrev pub invariant-loop-cell : goal.invariant-loop-cell
invariant-loop-cell g l = l.cells.items ≡ l.fn.cells.items ++ map (placed l.by_column) (take l.cell-index l.piece)
