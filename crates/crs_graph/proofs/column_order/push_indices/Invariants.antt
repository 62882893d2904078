use Rattle.std.proofs.Common.{◌≡◌, ◌++◌, map, take}
use Rattle.crs_graph.proofs.column_order.push_indices.Given as goal

abbrev pub invariant-loop-pair : goal.invariant-loop-pair
invariant-loop-pair l = l.list.items ≡ l.initial.list.items ++ map (λ x. x.1) (take l.pair-index l.pairs)
