-- A row with a number, or none, for each of some columns.
use Rattle.std.specs.Prelude.{◌≡◌, ℕ, ◌<◌, ◌==◌, true, if◌then◌else◌, length, is_some, List, [], ◌∷◌, Option, None}
use Rattle.std.specs.List.{slice_index_or}
use Rattle.tables.specs.Indices.{stands}

-- the number under a column
abbrev pub number_under : {S : Type 0} → List ℕ → List (Option S) → ℕ → Option S
number_under [] numbers j = None
number_under (c ∷ cs) [] j = None
number_under (c ∷ cs) (d ∷ ds) j = if c == j then d else number_under cs ds j

-- the list of what was reached has each place at which a number stands, and only places of the row
pub record IsReached {S : Type 0} (reached : List ℕ) (numbers : List (Option S)) : Type 0 where
  pub within : (p : ℕ) → stands p reached ≡ true → p < length numbers
  pub all : (p : ℕ) → is_some (slice_index_or numbers p None) ≡ true → stands p reached ≡ true
