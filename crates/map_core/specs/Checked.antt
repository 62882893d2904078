-- A layout of 1 to 32 ranks for which it is known whether it is one-to-one and whether it is total.
use Rattle.std.specs.Prelude.{◌≡◌, ◌≤◌, ◌↔◌, Bool, true, length}
use Rattle.map_core.specs.Layouts.{Layout, IsLayout, IsOneToOne, IsTotal}

pub record IsChecked (m : Layout) (is_one_to_one is_total : Bool) : Type 0 where
  pub some_rank : 1 ≤ length m.lists
  pub ranks_limit : length m.lists ≤ 32
  pub is_layout : IsLayout m
  pub one_to_one : (is_one_to_one ≡ true) ↔ IsOneToOne m
  pub total : (is_total ≡ true) ↔ IsTotal m
