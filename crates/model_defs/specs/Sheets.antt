-- What is printed of the values of a job, and whether some cell of them is over.
use Rattle.std.specs.Prelude.{ℕ, Bool, if◌then◌else◌, List, [], ◌∷◌, map, Option, None, Some}
use Rattle.std.specs.List.{flat_map, list_all, list_any}
use Rattle.scalar_laws.specs.Conversions.{Conversions}
use Rattle.tables.specs.declared.Cell.{Cell}
use Rattle.tables.specs.Tables.{Table, cells_of, all_cells}
use Rattle.tables.specs.Indices.{count_from}
use Rattle.mm_text.specs.Written.{coordinate_text, array_text}
use Rattle.model_defs.specs.ShowText.{shown_cell, any_over}
use Rattle.model_defs.specs.declared.job.Job.{Job}
use Rattle.model_defs.specs.declared.job.Step.{Step}
use Rattle.model_defs.specs.declared.job.Step.TheVariants as step
use Rattle.model_defs.specs.declared.sheets.Sheet.{Sheet}
use Rattle.model_defs.specs.declared.sheets.SheetKind.{SheetKind}
use Rattle.model_defs.specs.declared.sheets.SheetKind.TheVariants.{Array, Coordinate}
use Rattle.model_defs.specs.Maps.{size_of, is_mapped}
use Rattle.model_defs.specs.Makers.{value_count}
use Rattle.model_defs.specs.Turns.{Each}
use Rattle.model_defs.specs.Shapes.{is_by_rank, Shape, shape, Sort, Vector, Parts, Matrix, Split}
use Rattle.model_defs.specs.Pieces.{Value}
use Rattle.model_defs.specs.Plans.{width_of}

-- the cells column by column
abbrev pub column_cells : {S : Type 0} → Table S → ℕ → ℕ → List (Cell S)
column_cells t rows j = all_cells t (count_from 0 rows) (j ∷ [])

-- whether each index below the size of a map stands in a list
abbrev pub is_total : Job → ℕ → Bool
is_total job m = list_all (is_mapped job m) (count_from 0 (size_of job m))

module _ {S : Type 0} (F : Conversions S) (job : Job) where
  abbrev pub coordinate_sheet : Shape → Option ℕ → Table S → Sheet
  coordinate_sheet s part t = record { kind = Coordinate; rows = size_of job s.rows; cols = width_of job s; part = part; cells = map (shown_cell F) (cells_of (size_of job s.rows) (width_of job s) t) }

  abbrev pub array_sheet : Shape → Table S → Sheet
  array_sheet s t = record { kind = Array; rows = size_of job s.rows; cols = width_of job s; part = None; cells = map (shown_cell F) (flat_map (column_cells t (size_of job s.rows)) (count_from 0 (width_of job s))) }

  -- A vector on a total map is printed as an array, any other by its places. Parts have a sheet for each rank.
  abbrev pub sheets_by : Sort → Shape → Value S → List Sheet
  sheets_by Vector s v = (if is_total job s.rows then array_sheet s (v 0) else coordinate_sheet s None (v 0)) ∷ []
  sheets_by Parts s v = map (λ p. coordinate_sheet s (Some p) (v p)) (count_from 0 job.ranks)
  sheets_by Matrix s v = coordinate_sheet s None (v 0) ∷ []
  sheets_by Split s v = []

  abbrev pub step_sheets : Each (Value S) → Step → List Sheet
  step_sheets values (step.Print v) = sheets_by (shape job v).sort (shape job v) (values v)
  step_sheets values _ = []

  -- what is printed of these values, in the order of the statements
  abbrev pub sheets_of : Each (Value S) → List Sheet
  sheets_of values = flat_map (step_sheets values) job.steps

  abbrev pub part_count : Sort → ℕ
  part_count sort = if is_by_rank sort then job.ranks else 1

  -- some cell of a value is over, in any of its parts
  abbrev pub is_value_over : Shape → Value S → Bool
  is_value_over s v = list_any (λ p. any_over F (size_of job s.rows) (width_of job s) (v p)) (count_from 0 (part_count s.sort))

  -- some cell of some value, given, intermediate or printed
  abbrev pub is_any_over : Each (Value S) → Bool
  is_any_over values = list_any (λ v. is_value_over (shape job v) (values v)) (count_from 0 (value_count job))

abbrev pub text_by : SheetKind → Sheet → List ℕ
text_by Array sheet = array_text sheet.rows sheet.cols (map (λ c. c.value) sheet.cells)
text_by Coordinate sheet = coordinate_text sheet.rows sheet.cols sheet.part sheet.cells

abbrev pub sheet_text : Sheet → List ℕ
sheet_text sheet = text_by sheet.kind sheet

-- the printed text of a job whose values are these
abbrev pub printed_text : {S : Type 0} → Conversions S → Job → Each (Value S) → List ℕ
printed_text F job values = flat_map sheet_text (sheets_of F job values)
