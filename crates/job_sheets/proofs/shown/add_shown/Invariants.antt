use Rattle.std.proofs.Common.{◌≡◌, ◌++◌, take}
use Rattle.job_sheets.specs.Cells.{shown_within}
use Rattle.job_sheets.proofs.shown.add_shown.Given as goal

abbrev pub invariant-loop-cell : goal.invariant-loop-cell
invariant-loop-cell g l = l.shown.items ≡ l.fn.shown.items ++ shown_within g.S.Scalar.conversions l.is_turned l.rows l.cols (take l.cell-index l.cells)
