-- The structure of a sparse matrix: which places its rows have.
use Rattle.std.specs.Prelude.{◌≡◌, ℕ, ◌+◌, ◌<◌, Bool, false, List, [], length, map, slice_index, Option, None, Some}
use Rattle.std.specs.List.{concat, slice_index_or}
use Rattle.map_core.specs.Layouts.{stands, local_index}
use Rattle.map_core.specs.Classes.{index_at, place}
use Rattle.tables.specs.Indices.{AreBelow, AreDistinct}
use Rattle.crs_graph.specs.Ascending.{ascending, IsAscending}
use Rattle.crs_graph.specs.ColumnMaps.{IsColumnList}
use Rattle.crs_graph.specs.Packed.{offsets_of}

-- the rows of the row map and the columns of the column map, as global indices, and for each row the local indices of its
-- columns, ascending
pub record Graph : Type 0 where
  pub rows : List ℕ
  pub cols : List ℕ
  pub columns : List (List ℕ)

-- the columns of the row with the local index l
abbrev pub graph_row : Graph → ℕ → List ℕ
graph_row g l = slice_index_or g.columns l []

abbrev pub has_local_place : Graph → Option ℕ → Option ℕ → Bool
has_local_place g None c = false
has_local_place g (Some l) None = false
has_local_place g (Some l) (Some c) = stands c (graph_row g l)

-- whether a structure has the place of a row and a column, both global indices
abbrev pub graph_has : Graph → ℕ → ℕ → Bool
graph_has g row col = has_local_place g (local_index g.rows row) (local_index g.cols col)

-- the local indices of columns, ascending
abbrev pub local_columns : List ℕ → List ℕ → List ℕ
local_columns cols gs = ascending (map (place cols) gs)

-- the places of a row, counted from 0, in ascending order of their global columns
abbrev pub by_index : List ℕ → List ℕ → List ℕ
by_index cols row = map (λ g. place row (place cols g)) (ascending (map (index_at cols) row))

-- each row has columns of the column map, ascending
pub record IsGraph (g : Graph) : Type 0 where
  pub rows : length g.columns ≡ length g.rows
  pub distinct : AreDistinct g.cols
  pub ascend : (l : ℕ) → IsAscending (graph_row g l)
  pub within : (l : ℕ) → AreBelow (length g.cols) (graph_row g l)

-- The structure of these rows of global columns: its column map has the columns of all rows, each once, the domain's first
-- and the others by owner, and its rows have the columns of these rows and no others.
pub record IsCompleted (rows : List ℕ) (columns : List (List ℕ)) (domain owners : List ℕ) (g : Graph) : Type 0 where
  pub row_list : g.rows ≡ rows
  pub col_list : IsColumnList domain (ascending (concat columns)) owners g.cols
  pub once : AreDistinct g.cols
  pub same : (k : ℕ) → stands k g.cols ≡ stands k (concat columns)
  pub places : (l c : ℕ) → c < length g.cols → stands c (graph_row g l) ≡ stands (index_at g.cols c) (slice_index_or columns l [])

-- where a row and a column stand, both global indices: place `at` of its row, which is place k of all, row after row
pub record IsAt (g : Graph) (row col k : ℕ) : Type 0 where
  pub lid : ℕ
  pub col_lid : ℕ
  pub at : ℕ
  pub row_is : local_index g.rows row ≡ Some lid
  pub col_is : local_index g.cols col ≡ Some col_lid
  pub at_is : local_index (graph_row g lid) col_lid ≡ Some at
  pub flat : k ≡ slice_index (offsets_of g.columns) lid + at
