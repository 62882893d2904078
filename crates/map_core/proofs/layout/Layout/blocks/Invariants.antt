use Rattle.std.proofs.Common.{◌≡◌, map, sum, take}
use Rattle.map_core.specs.Blocks.{runs_from}
use Rattle.map_core.proofs.layout.Layout.blocks.Given as goal

abbrev pub invariant-loop-count : goal.invariant-loop-count
invariant-loop-count l = record {
  first : l.first ≡ sum (take l.count-index l.counts);
  lists : map (λ m. m.value) l.maps.items ≡ runs_from 0 (take l.count-index l.counts);
}
