use Rattle.std.proofs.Common.{◌≡◌, map}
use Rattle.std.specs.List.{range_with_len}
use Rattle.map_core.specs.Uniform.{uniform_first, uniform_list}
use Rattle.map_core.proofs.layout.Layout.uniform.Given as goal

abbrev pub invariant-loop-rank : goal.invariant-loop-rank
invariant-loop-rank l = record {
  first : l.first ≡ uniform_first l.ranks l.size l.rank;
  lists : map (λ m. m.value) l.maps.items ≡ map (uniform_list l.ranks l.size) (range_with_len 0 l.rank);
}
