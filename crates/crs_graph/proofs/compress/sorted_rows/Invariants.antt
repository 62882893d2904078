use Rattle.std.proofs.Common.{◌≡◌, ◌-◌, map, take}
use Rattle.crs_graph.specs.Ascending.{ascending}
use Rattle.crs_graph.specs.Packed.{joined, slices}
use Rattle.crs_graph.proofs.compress.sorted_rows.Given as goal

abbrev pub invariant-loop-row : goal.invariant-loop-row
invariant-loop-row l = l.columns.items ≡ joined (map ascending (take (l.row - 1) (slices l.offsets l.locals)))
