-- Where the owner of an index is known: a directory over all ranks keeps it at the rank that would own the index in the
-- contiguous uniform layout of that size, as Tpetra's distributed directory does.
use Rattle.std.specs.Prelude.{ℕ, ◌+◌, Bool, ◌&&◌, nat_le, nat_lt, List, filter}
use Rattle.map_core.specs.Uniform.{uniform_first, uniform_count}

-- whether rank h is the home of g, of n indices over P ranks
abbrev pub is_home : ℕ → ℕ → ℕ → ℕ → Bool
is_home P n h g = nat_le (uniform_first P n h) g && nat_lt g (uniform_first P n h + uniform_count P n h)

-- those of a list whose home is h, in their order
abbrev pub homed : ℕ → ℕ → ℕ → List ℕ → List ℕ
homed P n h xs = filter (is_home P n h) xs
