use Rattle.std.proofs.Common.{◌≡◌, ℕ, ◌||◌, take, nat_eq}
use Rattle.indexmap.specs.IndexSet.{IsUnique}
use Rattle.map_core.specs.Layouts.{stands}
use Rattle.map_core.proofs.lists.add_list.Given as goal

abbrev pub invariant-loop-gid : goal.invariant-loop-gid
invariant-loop-gid l = record {
  members : (g : ℕ) → stands g l.all.keys ≡ (stands g l.fn.all.keys || stands g (take l.gid-index l.list));
  unique : IsUnique nat_eq l.all;
}
