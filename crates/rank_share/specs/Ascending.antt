-- The indices of a list in ascending order.
use Rattle.std.specs.Prelude.{ℕ, nat_le, List, [], ◌∷◌, if◌then◌else◌}

-- g before the first one that is not below it
abbrev pub with_index : ℕ → List ℕ → List ℕ
with_index g [] = g ∷ []
with_index g (x ∷ xs) = if nat_le g x then g ∷ x ∷ xs else x ∷ with_index g xs

abbrev pub ascending : List ℕ → List ℕ
ascending [] = []
ascending (x ∷ xs) = with_index x (ascending xs)
