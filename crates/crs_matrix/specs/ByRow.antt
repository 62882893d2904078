-- A matrix in compressed rows as rows of cells: the columns as global indices, ascending.
use Rattle.std.specs.Prelude.{ℕ, length, map, List, [], ◌∷◌, Option, Some}
use Rattle.std.specs.List.{range_with_len}
use Rattle.map_core.specs.Classes.{index_at}
use Rattle.map_core.specs.Layouts.{local_index}
use Rattle.crs_graph.specs.Ascending.{ascending}
use Rattle.crs_graph.specs.Graphs.{graph_row}
use Rattle.crs_matrix.specs.Matrices.{crs_number, Crs}
use Rattle.crs_matrix.specs.Rows.{RowCells}
use Rattle.crs_matrix.specs.Stored.{cell_before}

-- these columns, each with its number; a column that has none is left out
abbrev pub cells_with : {S : Type 0} → (ℕ → Option S) → List ℕ → List (ℕ × S)
cells_with number [] = []
cells_with number (g ∷ gs) = cell_before g (number g) (cells_with number gs)

-- the columns of the row with the local index l, as global indices, ascending
abbrev pub row_gids : {S : Type 0} → Crs S → ℕ → List ℕ
row_gids m l = ascending (map (index_at m.graph.cols) (graph_row m.graph l))

-- the number at the row with the local index l and a column, which is a global index
abbrev pub number_in_row : {S : Type 0} → Crs S → ℕ → ℕ → Option S
number_in_row m l col = crs_number m (Some l) (local_index m.graph.cols col)

-- the cells of the row with the local index l
abbrev pub crs_cells : {S : Type 0} → Crs S → ℕ → List (ℕ × S)
crs_cells m l = cells_with (number_in_row m l) (row_gids m l)

-- all rows, each with its cells
abbrev pub by_row : {S : Type 0} → Crs S → RowCells S
by_row m = record { rows = m.graph.rows; cells = map (crs_cells m) (range_with_len 0 (length m.graph.rows)) }
