-- The places of a structure under construction.
use Rattle.std.specs.Prelude.{◌≡◌, ℕ, Bool, false, List, [], length, map, Option, None, Some, slice_set}
use Rattle.std.specs.List.{concat, slice_index_or}
use Rattle.smallvec.specs.SmallVec.{SmallVec}
use Rattle.map_core.specs.Layouts.{stands, local_index}
use Rattle.crs_graph.specs.Ascending.{ascending, with_index, IsAscending}

-- the rows of the row map, and for each of them its columns, ascending; all are global indices
pub record Fill : Type 0 where
  pub rows : List ℕ
  pub columns : List (List ℕ)

-- the columns in the vectors of a fill
abbrev pub columns_of : List (SmallVec ℕ) → List (List ℕ)
columns_of vs = map (λ v. v.items) vs

-- the columns of the row with the local index l
abbrev pub row_columns : Fill → ℕ → List ℕ
row_columns f l = slice_index_or f.columns l []

abbrev pub has_local : Fill → Option ℕ → ℕ → Bool
has_local f None col = false
has_local f (Some l) col = stands col (row_columns f l)

-- whether a fill has the place of a row and a column
abbrev pub has_place : Fill → ℕ → ℕ → Bool
has_place f row col = has_local f (local_index f.rows row) col

abbrev pub with_local : Fill → Option ℕ → ℕ → Fill
with_local f None col = f
with_local f (Some l) col = record f { columns = slice_set f.columns l (with_index (row_columns f l) col) }

-- the fill with the place of a row and a column
abbrev pub with_place : Fill → ℕ → ℕ → Fill
with_place f row col = with_local f (local_index f.rows row) col

-- the distinct columns of all rows, ascending
abbrev pub all_columns : Fill → List ℕ
all_columns f = ascending (concat f.columns)

-- there is a list of columns for each row, and each one ascends
pub record IsFill (f : Fill) : Type 0 where
  pub rows : length f.columns ≡ length f.rows
  pub ascend : (l : ℕ) → IsAscending (row_columns f l)
