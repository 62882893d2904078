use Rattle.std.proofs.Common.{◌≡◌, take}
use Rattle.std.specs.List.{flat_map}
use Rattle.rank_share.specs.CellLines.{index_lines}
use Rattle.rank_share.proofs.cells.array_cells.Given as goal

abbrev pub invariant-loop-gid : goal.invariant-loop-gid
invariant-loop-gid l = l.lines.items ≡ flat_map (λ g. index_lines l.file.lines.items l.columns g g) (take l.gid-index l.gid-items)
