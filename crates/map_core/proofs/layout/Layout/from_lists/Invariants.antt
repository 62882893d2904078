use Rattle.std.proofs.Common.{◌≡◌, ◌<◌, ℕ, [], map, take, get_or}
use Rattle.map_core.specs.Faults.{IsSound}
use Rattle.map_core.proofs.layout.Layout.from_lists.Given as goal

abbrev pub invariant-loop-rank : goal.invariant-loop-rank
invariant-loop-rank l = record {
  lists : map (λ m. m.value) l.maps.items ≡ map (λ v. v.items) (take l.rank l.lists);
  sound : (p : ℕ) → p < l.rank → IsSound l.size (get_or (map (λ v. v.items) l.lists) p []);
}
