use Rattle.std.proofs.Common.{◌≡◌, false, take}
use Rattle.gathered_rows.specs.Blocks.{cells_in}
use Rattle.job_sheets.specs.Cells.{shown_within}
use Rattle.job_sheets.proofs.shown.shown_in_turn.Given as goal

abbrev pub invariant-loop-piece : goal.invariant-loop-piece
invariant-loop-piece g l = l.shown.items ≡ shown_within g.S.Scalar.conversions false l.rows l.cols (cells_in (take l.piece-index l.pieces))
