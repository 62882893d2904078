use Rattle.std.proofs.Common.{◌≡◌, take}
use Rattle.std.specs.List.{flat_map}
use Rattle.rank_share.specs.CellLines.{filled_index}
use Rattle.rank_share.proofs.cells.fill_cells.Given as goal

abbrev pub invariant-loop-gid : goal.invariant-loop-gid
invariant-loop-gid l = l.lines.items ≡ flat_map (filled_index l.value l.columns) (take l.gid-index l.gid-items)
