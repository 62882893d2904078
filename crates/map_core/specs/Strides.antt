-- Indices at equal distances.
use Rattle.std.specs.Prelude.{ℕ, zero, suc, ◌+◌, List, [], ◌∷◌}

-- n numbers from a on, each s above the one before it
abbrev pub stride_list : ℕ → ℕ → ℕ → List ℕ
stride_list a s zero = []
stride_list a s (suc n) = a ∷ stride_list (a + s) s n
