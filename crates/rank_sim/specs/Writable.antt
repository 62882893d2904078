-- Which sheets can be written as Matrix Market text.
use Rattle.std.specs.Prelude.{◌≡◌, ◌<◌, ◌^◌, ◌*◌, Result, Ok, All, length}
use Rattle.mm_text.specs.Written.{ArePlacesInOrder, ArePlacesWithin}
use Rattle.model_defs.specs.declared.sheets.Sheet.{Sheet}
use Rattle.model_defs.specs.declared.sheets.SheetKind.{SheetKind}
use Rattle.model_defs.specs.declared.sheets.SheetKind.TheVariants.{Array, Coordinate}
use Rattle.rank_sim.specs.declared.ends.End.{End}
use Rattle.rank_sim.specs.declared.ends.End.TheVariants as end
use Rattle.rank_sim.specs.declared.ends.RunFault.{RunFault}

-- an array of sizes below 2^32, with each of its values
pub record IsWholeArray (sheet : Sheet) : Type 0 where
  pub rows : sheet.rows < 2 ^ 32
  pub cols : sheet.cols < 2 ^ 32
  pub count : length sheet.cells ≡ sheet.rows * sheet.cols

-- places within the sizes, ascending, each of them once
pub record HasPlacesInOrder (sheet : Sheet) : Type 0 where
  pub within : ArePlacesWithin sheet.rows sheet.cols sheet.cells
  pub in_order : ArePlacesInOrder sheet.cells

abbrev pub IsWritableAs : SheetKind → Sheet → Type 0
IsWritableAs Array sheet = IsWholeArray sheet
IsWritableAs Coordinate sheet = HasPlacesInOrder sheet

-- the sheet has what the writer of its form asks for
abbrev pub IsWritable : Sheet → Type 0
IsWritable sheet = IsWritableAs sheet.kind sheet

-- where the run is done, each of its sheets can be written
abbrev pub HasWritableSheets : Result End RunFault → Type 0
HasWritableSheets (Ok (end.Done outcome)) = All IsWritable outcome.sheets.items
HasWritableSheets _ = Unit {0}
