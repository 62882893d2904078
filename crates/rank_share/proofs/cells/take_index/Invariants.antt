use Rattle.std.proofs.Common.{◌≡◌, ◌++◌}
use Rattle.rank_share.specs.CellLines.{index_lines}
use Rattle.rank_share.proofs.cells.take_index.Given as goal

abbrev pub invariant-loop-col : goal.invariant-loop-col
invariant-loop-col l = l.lines.items ≡ l.initial.lines.items ++ index_lines l.file.lines.items l.col l.gid l.row
