-- Rows of a matrix, as they are listed and tested.
use Rattle.std.specs.Prelude.{ℕ, Bool, List, [], map}
use Rattle.std.specs.List.{flat_map, list_any, slice_index_or}
use Rattle.scalar_laws.specs.Conversions.{Conversions}
use Rattle.tables.specs.declared.Cell.{Cell}
use Rattle.tables.specs.Indices.{count_from}
use Rattle.crs_matrix.specs.Rows.{RowCells}

-- The cells of a row, as cells of the row of this global index.
abbrev pub row_cells : {S : Type 0} → ℕ → List (ℕ × S) → List (Cell S)
row_cells row cells = map (λ c. record { row = row; col = c.0; value = c.1 }) cells

-- The cells of the row with the local index l.
abbrev pub local_row : {S : Type 0} → RowCells S → ℕ → List (Cell S)
local_row a l = row_cells (slice_index_or a.rows l 0) (slice_index_or a.cells l [])

-- The cells of the first rows.
abbrev pub first_rows : {S : Type 0} → RowCells S → ℕ → List (Cell S)
first_rows a n = flat_map (local_row a) (count_from 0 n)

-- Whether one of these numbers is over.
abbrev pub has_over : {S : Type 0} → Conversions S → List S → Bool
has_over F numbers = list_any F.is_over numbers
