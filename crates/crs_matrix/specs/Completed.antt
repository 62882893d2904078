-- The numbers of compressed rows, from rows under construction.
use Rattle.std.specs.Prelude.{◌≡◌, ℕ, ◌<◌, true, List, [], ◌∷◌, length, map, Option}
use Rattle.map_core.specs.Classes.{index_at}
use Rattle.map_core.specs.Layouts.{stands}
use Rattle.crs_matrix.specs.Rows.{number_at}

-- the number of each column of a row, whose columns are local indices, among cells of global columns
abbrev pub row_numbers : {S : Type 0} → List ℕ → List ℕ → List (ℕ × S) → List (Option S)
row_numbers cols row cells = map (λ c. number_at cells (index_at cols c)) row

-- the same for all rows
abbrev pub stored_rows : {S : Type 0} → List ℕ → List (List ℕ) → List (List (ℕ × S)) → List (List (Option S))
stored_rows cols [] cs = []
stored_rows cols (r ∷ rs) [] = []
stored_rows cols (r ∷ rs) (c ∷ cs) = row_numbers cols r c ∷ stored_rows cols rs cs

-- each local column is in the column map, and its global one among these
abbrev pub AreKnown : List ℕ → List ℕ → List ℕ → Type 0
AreKnown cols row columns = (k : ℕ) → k < length row → (index_at row k < length cols) × (stands (index_at cols (index_at row k)) columns ≡ true)
