-- The cyclic layout of n indices over P ranks: index g is on rank g mod P.
use Rattle.std.specs.Prelude.{ℕ, ◌%◌, ◌==◌, List, filter, map}
use Rattle.std.specs.List.{range_with_len}
use Rattle.map_core.specs.Layouts.{Layout}

-- the indices of rank p: those that are p mod P, ascending
abbrev pub cyclic_list : ℕ → ℕ → ℕ → List ℕ
cyclic_list P n p = filter (λ g. (g % P) == p) (range_with_len 0 n)

abbrev pub cyclic_layout : ℕ → ℕ → Layout
cyclic_layout P n = record { size = n; lists = map (cyclic_list P n) (range_with_len 0 P) }
