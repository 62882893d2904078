-- The rows of a matrix that a rank holds: for each row its columns, ascending, each with its number.
use Rattle.std.specs.Prelude.{◌≡◌, ℕ, ◌==◌, Bool, nat_lt, if◌then◌else◌, length, map, List, [], ◌∷◌, Option, None, Some}
use Rattle.std.specs.List.{concat, slice_index_or}
use Rattle.tables.specs.Tables.{Table}
use Rattle.map_core.specs.Layouts.{local_index}
use Rattle.distributor.specs.Entries.{Entry}
use Rattle.crs_graph.specs.Ascending.{ascending, IsAscending}

-- the rows of the row map, and for each of them its cells: a column and its number; all are global indices
pub record RowCells (S : Type 0) : Type 0 where
  pub rows : List ℕ
  pub cells : List (List (ℕ × S))

-- the number at a column of one row
abbrev pub number_at : {S : Type 0} → List (ℕ × S) → ℕ → Option S
number_at [] col = None
number_at (c ∷ cs) col = if c.0 == col then Some c.1 else number_at cs col

-- the numbers by local index of the row and global index of the column
abbrev pub local_table : {S : Type 0} → RowCells S → Table S
local_table a l col = number_at (slice_index_or a.cells l []) col

abbrev pub number_in : {S : Type 0} → RowCells S → Option ℕ → ℕ → Option S
number_in a None col = None
number_in a (Some l) col = local_table a l col

-- the numbers by global indices: the matrix that these rows are
abbrev pub row_table : {S : Type 0} → RowCells S → Table S
row_table a row col = number_in a (local_index a.rows row) col

-- whether there is a row with the local index l
abbrev pub has_row : {S : Type 0} → RowCells S → ℕ → ℕ → Bool
has_row a l col = nat_lt l (length a.rows)

-- the columns of one row
abbrev pub columns_in : {S : Type 0} → List (ℕ × S) → List ℕ
columns_in cells = map (λ c. c.0) cells

-- the distinct columns of all rows, ascending
abbrev pub all_columns : {S : Type 0} → RowCells S → List ℕ
all_columns a = ascending (concat (map columns_in a.cells))

-- the rows as entries: each with its global index and its cells
abbrev pub entries_of : {S : Type 0} → List ℕ → List (List (ℕ × S)) → List (Entry S)
entries_of [] cells = []
entries_of (g ∷ gs) [] = []
entries_of (g ∷ gs) (c ∷ cs) = record { gid = g; cells = c } ∷ entries_of gs cs

abbrev pub row_entries : {S : Type 0} → RowCells S → List (Entry S)
row_entries a = entries_of a.rows a.cells

-- there are cells for each row, and their columns ascend
pub record IsRowCells {S : Type 0} (a : RowCells S) : Type 0 where
  pub each : length a.cells ≡ length a.rows
  pub ascend : (l : ℕ) → IsAscending (columns_in (slice_index_or a.cells l []))

-- the same rows
abbrev pub HasSameRows : {S : Type 0} → RowCells S → RowCells S → Type 0
HasSameRows a b = b.rows ≡ a.rows
