use Rattle.std.proofs.Common.{◌≡◌, ◌++◌}
use Rattle.rank_share.specs.CellLines.{filled_index}
use Rattle.rank_share.proofs.cells.fill_index.Given as goal

abbrev pub invariant-loop-col : goal.invariant-loop-col
invariant-loop-col l = l.lines.items ≡ l.initial.lines.items ++ filled_index l.fn.value l.col l.gid
