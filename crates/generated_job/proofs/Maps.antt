-- The uniform and the cyclic layout of one size.
use Rattle.std.proofs.Common.{◌≡◌, ℕ, ◌<◌, ◌≤◌, true, eqb, length, sym, ap, ◌∙◌, arith}
use Rattle.std.specs.List.{concat, list_any}
use Rattle.std.proofs.lemmas.Map.Steps.{length-le_from_distinct_below}
use Rattle.map_core.specs.Layouts.{Layout, IsLayout, IsOneToOne, stands}
use Rattle.map_core.specs.Cyclic.{cyclic_layout}
use Rattle.map_core.specs.Uniform.{uniform_layout}
use Rattle.map_core.proofs.Contiguous.{joined}
use Rattle.map_core.proofs.Cyclic.{total-cyclic}
use Rattle.map_core.proofs.Members.{AreDistinct-to_set, stands-list_any}
use Rattle.map_core.proofs.Runs.{within_run}
use Rattle.map_core.proofs.Unions.{list_with}

-- a layout on which each index has one owner has no more indices than its size
pub few-indices : (m : Layout) → IsLayout m → IsOneToOne m → length (concat m.lists) ≤ m.size
few-indices m layout once = length-le_from_distinct_below (concat m.lists) m.size (AreDistinct-to_set (concat m.lists) once) below
  where
    below : (g : ℕ) → list_any (eqb g) (concat m.lists) ≡ true → g < m.size
    below g on =
        let in_one = list_with g m.lists (sym (stands-list_any g (concat m.lists)) ∙ on) in
        layout.below in_one.rank g in_one.on

-- the cyclic layout has every index that the uniform one has
pub covers : (P n g : ℕ) → 0 < P → stands g (concat (uniform_layout P n).lists) ≡ true → stands g (concat (cyclic_layout P n).lists) ≡ true
covers P n g some on =
    let within = within_run g 0 n (sym (ap (stands g) (joined P n some)) ∙ on) in
    total-cyclic P n some g (omega arith)
