-- A matrix without places.
use Rattle.std.specs.Prelude.{◌≡◌, ℕ, List, [], map}
use Rattle.tables.specs.Tables.{nowhere}
use Rattle.crs_matrix.specs.Rows.{row_table}

-- A matrix under construction has no place at first.
abbrev pub NewMatricesAreEmpty : Type 0 → Type 0
NewMatricesAreEmpty S = (rows : List ℕ) → row_table {S = S} (record { rows = rows; cells = map (λ _. []) rows }) ≡ nowhere
