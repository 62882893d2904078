-- What the fault of a matrix says of its structure.
use Rattle.std.specs.Prelude.{◌≡◌, ℕ, false}
use Rattle.crs_graph.specs.Graphs.{graph_has, Graph}
use Rattle.crs_matrix.specs.declared.row_fault.RowFault.{RowFault}
use Rattle.crs_matrix.specs.declared.row_fault.RowFault.TheVariants.{NoSuchPlace}

-- the structure lacks the place that was asked for
abbrev pub IsRowFault : Graph → ℕ → ℕ → RowFault → Type 0
IsRowFault g row col fault = (fault ≡ NoSuchPlace row col) × (graph_has g row col ≡ false)
