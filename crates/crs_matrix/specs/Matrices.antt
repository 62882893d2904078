-- A matrix in compressed rows.
use Rattle.std.specs.Prelude.{◌≡◌, ℕ, length, take, drop, slice_get, List, [], ◌∷◌, Option, None, Some}
use Rattle.std.specs.List.{slice_index_or}
use Rattle.std.specs.Option.{option_map}
use Rattle.scalar_laws.specs.Semiring.{Semiring}
use Rattle.tables.specs.Tables.{Table}
use Rattle.map_core.specs.Layouts.{local_index}
use Rattle.crs_graph.specs.Graphs.{graph_row, Graph, IsGraph}

-- its structure, and for each row the numbers of its columns, in the order of the columns
pub record Crs (S : Type 0) : Type 0 where
  pub graph : Graph
  pub values : List (List S)

-- rows of numbers, from a list of all of them: as many for each row as it has columns
abbrev pub number_rows : {A S : Type 0} → List (List A) → List S → List (List S)
number_rows [] xs = []
number_rows (r ∷ rs) xs = take (length r) xs ∷ number_rows rs (drop (length r) xs)

-- the numbers of the row with the local index l
abbrev pub numbers : {S : Type 0} → Crs S → ℕ → List S
numbers m l = slice_index_or m.values l []

abbrev pub number_at_place : {S : Type 0} → List S → Option ℕ → Option S
number_at_place vs None = None
number_at_place vs (Some p) = slice_get vs p

-- the number at a row and a column, both local indices
abbrev pub crs_local : {S : Type 0} → Crs S → Table S
crs_local m l c = number_at_place (numbers m l) (local_index (graph_row m.graph l) c)

abbrev pub crs_number : {S : Type 0} → Crs S → Option ℕ → Option ℕ → Option S
crs_number m None c = None
crs_number m (Some l) None = None
crs_number m (Some l) (Some c) = crs_local m l c

-- the number at a row and a column, both global indices: the matrix that it is
abbrev pub crs_table : {S : Type 0} → Crs S → Table S
crs_table m row col = crs_number m (local_index m.graph.rows row) (local_index m.graph.cols col)

-- the matrix with each number multiplied
abbrev pub scaled : {S : Type 0} → Semiring S → S → Table S → Table S
scaled R alpha t i j = option_map (λ v. R.times alpha v) (t i j)

-- there is a number for each place of the structure
pub record IsCrs {S : Type 0} (m : Crs S) : Type 0 where
  pub graph : IsGraph m.graph
  pub each : length m.values ≡ length m.graph.columns
  pub as_many : (l : ℕ) → length (numbers m l) ≡ length (graph_row m.graph l)
