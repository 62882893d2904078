use Rattle.std.proofs.Common.{◌≡◌, ◌*◌, ◌≤◌, ℕ, length, map, take, nat_eq}
use Rattle.std.specs.List.{concat}
use Rattle.indexmap.specs.IndexSet.{IsUnique}
use Rattle.map_core.specs.Layouts.{stands}
use Rattle.map_core.proofs.lists.union.Given as goal

abbrev pub invariant-loop-list : goal.invariant-loop-list
invariant-loop-list l = record {
  members : (g : ℕ) → stands g l.all.keys ≡ stands g (concat (map (λ v. v.items) (take l.list-index l.lists)));
  unique : IsUnique nat_eq l.all;
  counted : l.count ≡ length (concat (map (λ v. v.items) (take l.list-index l.lists)));
  small : l.count ≤ 4294967296 * l.list-index;
}
