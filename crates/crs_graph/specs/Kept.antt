-- What the lists of a structure keep.
use Rattle.std.specs.Prelude.{◌≡◌, ℕ, List, map}
use Rattle.crs_graph.specs.Graphs.{by_index, Graph, IsGraph}
use Rattle.crs_graph.specs.Packed.{slices, IsPacked}

-- the structure in its lists
abbrev pub graph_of : List ℕ → List ℕ → List ℕ → List ℕ → Graph
graph_of rows cols offsets columns = record { rows = rows; cols = cols; columns = slices offsets columns }

-- each row's places in ascending order of global column are kept beside its columns
pub record IsKept (rows cols offsets columns order : List ℕ) : Type 0 where
  pub packed : IsPacked offsets columns
  pub order_packed : IsPacked offsets order
  pub order_rows : slices offsets order ≡ map (by_index cols) (slices offsets columns)
  pub graph : IsGraph (graph_of rows cols offsets columns)
