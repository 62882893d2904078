-- The cells of ranks in the order in which they are printed.
use Rattle.std.specs.Prelude.{◌≡◌, ℕ, Bool, true, false, ◌&&◌, nat_lt, List, [], map, filter, Option, None, Some}
use Rattle.std.specs.Global.{Vec}
use Rattle.std.specs.List.{flat_map}
use Rattle.scalar_laws.specs.Semiring.{Semiring}
use Rattle.scalar_laws.specs.Conversions.{Conversions}
use Rattle.tables.specs.declared.Cell.{Cell}
use Rattle.tables.specs.Indices.{count_from}
use Rattle.tables.specs.Tables.{Table, found, sum_of, cells_of}
use Rattle.gathered_rows.specs.Sorting.{none_after}
use Rattle.mm_text.specs.declared.shown.Shown.{Shown}
use Rattle.model_defs.specs.ShowText.{shown_cell}
use Rattle.model_defs.specs.Sheets.{column_cells}

-- the cell with row and column exchanged
abbrev pub turned : {S : Type 0} → Cell S → Cell S
turned c = record { row = c.col; col = c.row; value = c.value }

-- the cell at the place by which it is put in order
abbrev pub placed : {S : Type 0} → Bool → Cell S → Cell S
placed true c = turned c
placed false c = c

-- whether a cell stands in the first rows and columns
abbrev pub is_within : {S : Type 0} → ℕ → ℕ → Cell S → Bool
is_within rows cols c = nat_lt c.row rows && nat_lt c.col cols

-- what is shown of cells, which were perhaps exchanged: those in the first rows and columns
abbrev pub shown_within : {S : Type 0} → Conversions S → Bool → ℕ → ℕ → List (Cell S) → List Shown
shown_within F is_turned rows cols cells = map (shown_cell F) (filter (is_within rows cols) (map (placed is_turned) cells))

-- the sum of the tables of ranks
abbrev pub sum_of_pieces : {S : Type 0} → Semiring S → List (Vec (Cell S)) → Table S
sum_of_pieces R pieces = sum_of R (map (λ piece. found piece.items) pieces)

-- the cells of a table column by column, or row by row
abbrev pub listed : {S : Type 0} → Bool → ℕ → ℕ → Table S → List (Cell S)
listed true rows cols t = flat_map (column_cells t rows) (count_from 0 cols)
listed false rows cols t = cells_of rows cols t

-- There is a last one only where there are cells, and then no cell stands after it.
abbrev pub IsLast : {S : Type 0} → List (Cell S) → Option (Cell S) → Type 0
IsLast cells None = cells ≡ []
IsLast cells (Some c) = none_after c cells ≡ true
