use Rattle.std.proofs.Common.{◌≡◌, ◌<◌, ℕ, true, take, nat_eq}
use Rattle.indexmap.specs.IndexSet.{IsUnique}
use Rattle.map_core.specs.Layouts.{stands}
use Rattle.map_core.proofs.lists.checked_list.Given as goal

abbrev pub invariant-loop-gid : goal.invariant-loop-gid
invariant-loop-gid l = record {
  kept : l.set.keys ≡ take l.gid-index l.gids;
  unique : IsUnique nat_eq l.set;
  below : (g : ℕ) → stands g (take l.gid-index l.gids) ≡ true → g < l.size;
}
