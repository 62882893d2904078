use Rattle.std.proofs.Common.{◌≡◌, take}
use Rattle.std.specs.List.{flat_map}
use Rattle.rank_share.specs.CellLines.{index_lines}
use Rattle.rank_share.specs.Shares.{place_in}
use Rattle.rank_share.proofs.cells.part_cells.Given as goal

abbrev pub invariant-loop-gid : goal.invariant-loop-gid
invariant-loop-gid l = l.lines.items ≡ flat_map (λ g. index_lines l.file.lines.items l.columns g (place_in l.map g)) (take l.gid-index l.gid-items)
