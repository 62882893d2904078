-- Rows that stand one after the other in one list, with the place at which each of them begins.
use Rattle.std.specs.Prelude.{◌≡◌, ℕ, ◌+◌, List, [], ◌∷◌, length, slice_range}
use Rattle.std.specs.List.{flat_map}

-- the rows in one list
abbrev pub joined : {A : Type 0} → List (List A) → List A
joined rs = flat_map (λ r. r) rs

-- the rows between these places, where the first one begins at o
abbrev pub slices_from : {A : Type 0} → ℕ → List ℕ → List A → List (List A)
slices_from o [] xs = []
slices_from o (p ∷ ps) xs = slice_range xs o p ∷ slices_from p ps xs

abbrev pub slices : {A : Type 0} → List ℕ → List A → List (List A)
slices [] xs = []
slices (o ∷ os) xs = slices_from o os xs

-- where each row begins, the first one at place n, and where the last one ends
abbrev pub offsets_from : {A : Type 0} → ℕ → List (List A) → List ℕ
offsets_from n [] = n ∷ []
offsets_from n (r ∷ rs) = n ∷ offsets_from (n + length r) rs

abbrev pub offsets_of : {A : Type 0} → List (List A) → List ℕ
offsets_of rs = offsets_from 0 rs

-- the list has these rows and nothing else
pub record IsPacked {A : Type 0} (offsets : List ℕ) (xs : List A) : Type 0 where
  pub begin : offsets ≡ offsets_of (slices offsets xs)
  pub all : xs ≡ joined (slices offsets xs)
