use Rattle.std.proofs.Common.{◌≡◌, map}
use Rattle.std.specs.List.{range_with_len}
use Rattle.map_core.specs.Cyclic.{cyclic_list}
use Rattle.map_core.proofs.layout.Layout.cyclic.Given as goal

abbrev pub invariant-loop-rank : goal.invariant-loop-rank
invariant-loop-rank l = map (λ m. m.value) l.maps.items ≡ map (cyclic_list l.ranks l.size) (range_with_len 0 l.rank)
