-- How a matrix under construction is kept: for each row its places, ascending by column, and the numbers of all places in
-- one list.
use Rattle.std.specs.Prelude.{◌≡◌, ℕ, ◌<◌, ◌≤◌, length, map, slice_get, List, [], ◌∷◌, Option, None, Some}
use Rattle.std.specs.List.{slice_index_or}
use Rattle.smallvec.specs.SmallVec.{SmallVec}
use Rattle.crs_graph.specs.Ascending.{IsAscending}
use Rattle.crs_matrix.specs.declared.places.Place.{Place}
use Rattle.crs_matrix.specs.Rows.{RowCells}

-- the places in the vectors of a fill
abbrev pub places_of : List (SmallVec Place) → List (List Place)
places_of vs = map (λ v. v.items) vs

abbrev pub columns_at : List Place → List ℕ
columns_at ps = map (λ p. p.col) ps

-- a place that stands for none
abbrev pub no_place : Place
no_place = record { col = 0; at = 0 }

-- each place names one of so many numbers
abbrev pub AreWithin : ℕ → List Place → Type 0
AreWithin count [] = Unit {0}
AreWithin count (p ∷ ps) = (p.at < count) × AreWithin count ps

-- a column would stand between the places before i and those from i on
pub record IsGap (ps : List Place) (i col : ℕ) : Type 0 where
  pub below : (k : ℕ) → k < i → (slice_index_or ps k no_place).col < col
  pub above : (k : ℕ) → i ≤ k → k < length ps → col < (slice_index_or ps k no_place).col

abbrev pub cell_before : {S : Type 0} → ℕ → Option S → List (ℕ × S) → List (ℕ × S)
cell_before col None rest = rest
cell_before col (Some v) rest = (col, v) ∷ rest

-- the cells of one row: each column with the number that its place names
abbrev pub cells_at : {S : Type 0} → List S → List Place → List (ℕ × S)
cells_at values [] = []
cells_at values (p ∷ ps) = cell_before p.col (slice_get values p.at) (cells_at values ps)

abbrev pub stored : {S : Type 0} → List ℕ → List (List Place) → List S → RowCells S
stored rows places values = record { rows = rows; cells = map (cells_at values) places }

-- the places of row l name some of so many numbers, and each number has one place
abbrev pub ArePlaced : (ℕ → ℕ × ℕ) → ℕ → ℕ → List Place → Type 0
ArePlaced owner count l [] = Unit {0}
ArePlaced owner count l (p ∷ ps) = (p.at < count) × (owner p.at ≡ (l, p.col)) × ArePlaced owner count l ps

-- there are places for each row, ascending by column, and each number has at most one place
pub record IsStored (rows : List ℕ) (places : List (List Place)) (count : ℕ) : Type 0 where
  pub each : length places ≡ length rows
  pub ascend : (l : ℕ) → IsAscending (columns_at (slice_index_or places l []))
  pub owner : ℕ → ℕ × ℕ
  pub placed : (l : ℕ) → ArePlaced owner count l (slice_index_or places l [])
