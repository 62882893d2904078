-- Sheets that the writers of Matrix Market text can take, and the text of a page.
use Rattle.std.specs.Prelude.{◌≡◌, ◌<◌, ◌*◌, ◌^◌, ℕ, List, length}
use Rattle.mm_text.specs.Written.{ArePlacesInOrder, ArePlacesWithin, array_text, coordinate_text}
use Rattle.model_defs.specs.declared.sheets.Sheet.{Sheet}
use Rattle.model_defs.specs.declared.sheets.SheetKind.{SheetKind}
use Rattle.model_defs.specs.declared.sheets.SheetKind.TheVariants as sheet
use Rattle.run_output.specs.declared.page.Page.{Page}
use Rattle.run_output.specs.declared.page.Page.TheVariants.{Array, Coordinate}

-- an array has a value for each place, and sizes below 2^32
abbrev pub IsDense : Sheet → Type 0
IsDense s = (length s.cells ≡ s.rows * s.cols) × (s.rows < 2 ^ 32) × (s.cols < 2 ^ 32)

-- the cells lie within the sizes and ascend by row, then column
abbrev pub IsListed : Sheet → Type 0
IsListed s = ArePlacesWithin s.rows s.cols s.cells × ArePlacesInOrder s.cells

abbrev pub IsWritableAs : SheetKind → Sheet → Type 0
IsWritableAs sheet.Array s = IsDense s
IsWritableAs sheet.Coordinate s = IsListed s

-- the sheet can be written
abbrev pub IsWritable : Sheet → Type 0
IsWritable s = IsWritableAs s.kind s

-- the page can be written
abbrev pub IsReady : Page → Type 0
IsReady (Array rows cols values) = length values ≡ rows * cols
IsReady (Coordinate rows cols part cells) = ArePlacesWithin rows cols cells × ArePlacesInOrder cells

abbrev pub page_text : Page → List ℕ
page_text (Array rows cols values) = array_text rows cols values
page_text (Coordinate rows cols part cells) = coordinate_text rows cols part cells
