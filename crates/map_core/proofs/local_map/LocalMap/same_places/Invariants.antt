use Rattle.std.proofs.Common.{◌≡◌, ◌<◌, ℕ}
use Rattle.map_core.specs.Layouts.{global_index}
use Rattle.map_core.proofs.local_map.LocalMap.same_places.Given as goal

abbrev pub invariant-loop-lid : goal.invariant-loop-lid
invariant-loop-lid l = (k : ℕ) → k < l.lid → global_index l.self k ≡ global_index l.other k
