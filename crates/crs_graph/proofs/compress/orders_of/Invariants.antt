use Rattle.std.proofs.Common.{◌≡◌, ◌-◌, map, take}
use Rattle.map_core.specs.Classes.{places}
use Rattle.crs_graph.specs.Ascending.{ascending}
use Rattle.crs_graph.specs.Packed.{joined, slices}
use Rattle.crs_graph.proofs.compress.orders_of.Given as goal

abbrev pub invariant-loop-row : goal.invariant-loop-row
invariant-loop-row l = l.order.items ≡ joined (map (λ row. places (ascending row) row) (take (l.row - 1) (slices l.offsets l.locals)))
