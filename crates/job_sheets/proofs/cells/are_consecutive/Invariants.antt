use Rattle.std.proofs.Common.{take}
use Rattle.gathered_rows.specs.Blocks.{cells_in}
use Rattle.tables.specs.Tables.{AreInOrder}
use Rattle.job_sheets.specs.Cells.{IsLast}
use Rattle.job_sheets.proofs.cells.are_consecutive.Given as goal

abbrev pub invariant-loop-piece : goal.invariant-loop-piece
invariant-loop-piece g l = record {
  order : AreInOrder (cells_in (take l.piece-index l.pieces));
  last : IsLast (cells_in (take l.piece-index l.pieces)) l.last;
}
