-- What the fault of a fill says of it.
use Rattle.std.specs.Prelude.{◌≡◌, ℕ, List, None}
use Rattle.map_core.specs.Layouts.{local_index}
use Rattle.crs_graph.specs.declared.faults.FillFault.{FillFault}
use Rattle.crs_graph.specs.declared.faults.FillFault.TheVariants.{NoSuchRow, NoMem}

-- the row that was asked for is not in the list of rows; memory may run out in any row
abbrev pub IsFillFault : List ℕ → ℕ → FillFault → Type 0
IsFillFault rows row (NoSuchRow r) = (r ≡ row) × (local_index rows row ≡ None)
IsFillFault rows row NoMem = Unit {0}
