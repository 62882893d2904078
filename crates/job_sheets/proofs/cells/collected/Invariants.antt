use Rattle.std.proofs.Common.{◌≡◌, map, take}
use Rattle.gathered_rows.specs.Blocks.{cells_in}
use Rattle.job_sheets.specs.Cells.{placed}
use Rattle.job_sheets.proofs.cells.collected.Given as goal

abbrev pub invariant-loop-piece : goal.invariant-loop-piece
invariant-loop-piece g l = l.cells.items ≡ map (placed l.by_column) (cells_in (take l.piece-index l.pieces))
