-- The contiguous uniform layout of n indices over P ranks, as Tpetra's map of that kind: each rank has n / P of
-- them in order, and each of the first n % P ranks has one more.
use Rattle.std.specs.Prelude.{ℕ, ◌+◌, ◌*◌, ◌/◌, ◌%◌, List, map, min, nat_lt, if◌then◌else◌}
use Rattle.std.specs.List.{range_with_len}
use Rattle.map_core.specs.Layouts.{Layout}

-- how many indices rank p has
abbrev pub uniform_count : ℕ → ℕ → ℕ → ℕ
uniform_count P n p = n / P + (if nat_lt p (n % P) then 1 else 0)

-- how many indices the ranks before p have: the first index of rank p
abbrev pub uniform_first : ℕ → ℕ → ℕ → ℕ
uniform_first P n p = p * (n / P) + min p (n % P)

-- the indices of rank p: its first one and those that follow it
abbrev pub uniform_list : ℕ → ℕ → ℕ → List ℕ
uniform_list P n p = range_with_len (uniform_first P n p) (uniform_count P n p)

abbrev pub uniform_layout : ℕ → ℕ → Layout
uniform_layout P n = record { size = n; lists = map (uniform_list P n) (range_with_len 0 P) }
