-- Layouts: which rank has which global indices, as a Tpetra map distributes them over its processes.
use Rattle.std.specs.Prelude.{◌≡◌, ℕ, ◌+◌, ◌<◌, true, List, [], ◌∷◌, Option, None, Some, nat_eq, position, slice_get, if◌then◌else◌}
use Rattle.std.specs.List.{concat, slice_index_or}
-- whether an index stands in a list, and whether none stands twice
pub use Rattle.tables.specs.Indices.{stands, AreDistinct}

-- the local index of g: its place in the list, counted from 0
abbrev pub local_index : List ℕ → ℕ → Option ℕ
local_index xs g = position (nat_eq g) xs

-- the global index at the local index l
abbrev pub global_index : List ℕ → ℕ → Option ℕ
global_index xs l = slice_get xs l

-- a layout: global indices are below the size, and each rank has an ordered list of them
pub record Layout : Type 0 where
  pub size : ℕ
  pub lists : List (List ℕ)

-- the list of rank p
abbrev pub rank_list : Layout → ℕ → List ℕ
rank_list m p = slice_index_or m.lists p []

-- each list has distinct indices below the size
pub record IsLayout (m : Layout) : Type 0 where
  pub distinct : (p : ℕ) → AreDistinct (rank_list m p)
  pub below : (p g : ℕ) → stands g (rank_list m p) ≡ true → g < m.size

-- the first rank whose list has g, where the lists are those of the ranks from p on
abbrev pub owner_from : ℕ → List (List ℕ) → ℕ → Option ℕ
owner_from p [] g = None
owner_from p (l ∷ ls) g = if stands g l then Some p else owner_from (p + 1) ls g

-- the rank that owns g: in a one-to-one layout the only one whose list has it
abbrev pub owner : Layout → ℕ → Option ℕ
owner m g = owner_from 0 m.lists g

-- no index stands in two lists, or twice in one
abbrev pub IsOneToOne : Layout → Type 0
IsOneToOne m = AreDistinct (concat m.lists)

-- each index below the size stands in a list
abbrev pub IsTotal : Layout → Type 0
IsTotal m = (g : ℕ) → g < m.size → stands g (concat m.lists) ≡ true
