-- The column map of a structure: first the columns that the domain has, in its order, then the others by owner, then by
-- index.
use Rattle.std.specs.Prelude.{◌≡◌, ℕ, ◌++◌, List, [], ◌∷◌, map, if◌then◌else◌}
use Rattle.std.specs.List.{filter}
use Rattle.std.specs.List.Sorted.{IsPermutation, IsSorted}
use Rattle.std.specs.declared.cmp.Ordering.{Ordering}
use Rattle.std.specs.Ordering.{nat_cmp, ordering_then}
use Rattle.map_core.specs.Layouts.{stands}

-- the order by owner, then by index
abbrev pub by_owner : ℕ × ℕ → ℕ × ℕ → Ordering
by_owner x y = ordering_then (nat_cmp x.0 y.0) (nat_cmp x.1 y.1)

-- the owner and the index of each column that the domain lacks
abbrev pub foreign : List ℕ → List ℕ → List ℕ → List (ℕ × ℕ)
foreign domain [] owners = []
foreign domain (g ∷ gs) [] = []
foreign domain (g ∷ gs) (o ∷ os) = if stands g domain then foreign domain gs os else (o, g) ∷ foreign domain gs os

-- the list of a column map, for ascending columns with their owners
pub record IsColumnList (domain columns owners : List ℕ) (list : List ℕ) : Type 0 where
  pub others : List (ℕ × ℕ)
  pub ordered : IsSorted by_owner others
  pub each : IsPermutation (foreign domain columns owners) others
  pub parts : list ≡ filter (λ g. stands g columns) domain ++ map (λ x. x.1) others
