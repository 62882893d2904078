-- Small jobs that are computed in the examples.
use Rattle.std.specs.Prelude.{ℕ, ℤ, pos, negsuc, Bool, List, [], ◌∷◌, ◌++◌, codes, Some, None, ◌≡◌, map, ◌+◌, ◌-◌, ◌*◌, ◌/◌, ◌%◌, ◌^◌, ◌==◌, if◌then◌else◌, take, drop, length}
use Rattle.scalar_laws.specs.Weighed.{weighed_semiring, weighed_conversions}
use Rattle.scalar_laws.specs.declared.weighed.Weighed.{Weighed}
use Rattle.mm_text.specs.declared.file_data.Line.{Line}
use Rattle.mm_text.specs.declared.file_data.Mirror.TheVariants.{Plain}
use Rattle.mm_text.specs.declared.shown.Shown.{Shown}
use Rattle.mm_text.specs.Reading.{File}
use Rattle.outside.specs.declared.name.Name.{Name}
use Rattle.model_defs.specs.declared.job.Job.{Job}
use Rattle.model_defs.specs.declared.job.MapSpec.{MapSpec}
use Rattle.model_defs.specs.declared.job.MapForm.{MapForm}
use Rattle.model_defs.specs.declared.job.MapForm.TheVariants.{Cyclic}
use Rattle.model_defs.specs.declared.job.VectorSpec.{VectorSpec}
use Rattle.model_defs.specs.declared.job.PartsSpec.{PartsSpec}
use Rattle.model_defs.specs.declared.job.Origin.{Origin}
use Rattle.model_defs.specs.declared.job.Origin.TheVariants.{Files}
use Rattle.model_defs.specs.declared.job.Step.{Step}
use Rattle.std.specs.Int.{w64, w128, to_le_bytes, from_le_bytes}
use Rattle.std.specs.List.{flat_map}
use Rattle.tables.specs.Tables.{Table, cells_of}
use Rattle.tables.specs.Indices.{count_from}
use Rattle.model_defs.specs.ShowText.{shown_cell}
use Rattle.model_defs.specs.Maps.{size_of}
use Rattle.model_defs.specs.Turns.{Each}
use Rattle.model_defs.specs.Shapes.{shape}
use Rattle.model_defs.specs.Makers.{value_count}
use Rattle.model_defs.specs.Plans.{width_of}
use Rattle.model_defs.specs.Stages.{made_piece, all_pieces, met_after, stage_count}
use Rattle.model_defs.specs.Pieces.{Value, piece_of}
use Rattle.model_defs.specs.Eval.{Pick, eval}
use Rattle.model_defs.specs.Letters.{letter_names}
use Rattle.letter_codec.specs.declared.kind.Kind.{Kind}
use Rattle.peers.specs.Protocols.{Letter, Protocol}
use Rattle.model_defs.specs.Machine.{job_protocol, gathered_value}
use Rattle.model_defs.specs.declared.sheets.Sheet.{Sheet}
use Rattle.model_defs.specs.declared.sheets.SheetKind.TheVariants.{Array, Coordinate}
use Rattle.model_defs.specs.Sheets.{sheets_of}
use Rattle.model_defs.specs.declared.sheets.PhaseLine.{PhaseLine}
use Rattle.model_defs.specs.declared.sheets.LetterLine.{LetterLine}
use Rattle.model_defs.specs.declared.job.Step.TheVariants as step

abbrev pub entry : ℕ → ℕ → ℤ → Line
entry i j v = record { row = i; col = j; value = v }

abbrev pub file : ℕ → ℕ → List Line → File
file m n lines = record { rows = m; cols = n; mirror = Plain; lines = lines }

abbrev pub shown : ℕ → ℕ → ℤ → Shown
shown i j v = record { row = i; col = j; value = v }

abbrev pub name : ℕ → ℕ → ℕ → Name
name n p q = record { phase = n; from = p; to = q }

abbrev pub line : ℕ → ℕ → ℕ → ℕ → LetterLine
line n p q entries = record { name = name n p q; entries = entries }

abbrev pub phase : ℕ → Kind → List ℕ → PhaseLine
phase n kind value = record { phase = n; kind = kind; name = value }

abbrev pub map_of : List ℕ → ℕ → MapForm → MapSpec
map_of n size form = record { name = n; size = size; form = form }

abbrev pub vector_of : List ℕ → ℕ → Origin → VectorSpec
vector_of n m origin = record { name = n; map = m; columns = 1; from = origin }

abbrev pub parts_of : List ℕ → ℕ → Origin → PartsSpec
parts_of n m origin = record { name = n; map = m; columns = 1; from = origin }

abbrev pub read : Origin
read = Files (codes "x.mtx" ∷ [])

-- the sheet of an array, and of places
abbrev pub array : ℕ → List Shown → List Sheet
array rows cells = record { kind = Array; rows = rows; cols = 1; part = None; cells = cells } ∷ []

abbrev pub places : ℕ → ℕ → List Shown → List Sheet
places rows cols cells = record { kind = Coordinate; rows = rows; cols = cols; part = None; cells = cells } ∷ []

abbrev pub part : ℕ → ℕ → List Shown → Sheet
part p rows cells = record { kind = Coordinate; rows = rows; cols = 1; part = Some p; cells = cells }

abbrev pub own_pick : Pick
own_pick k i j = 0

-- what is printed of the values on the global data
abbrev pub printed : Job → List File → Pick → List Sheet
printed job files pick = sheets_of weighed_conversions job (eval weighed_semiring weighed_conversions job files pick)

-- each letter of these names, one after the other, is what its sender makes of those before it
abbrev pub with_letter : Protocol → Name → List Letter → List Letter
with_letter P n g = g ++ (n, P.content n g) ∷ []

abbrev pub run_of : Protocol → List Letter → List Name → List Letter
run_of P g [] = g
run_of P g (n ∷ ns) = run_of P (with_letter P n g) ns

abbrev pub run : Job → List File → List Name → List Letter
run job files ns = run_of (job_protocol weighed_semiring weighed_conversions job files) [] ns

-- what is printed of the values that the ranks have together after these letters
abbrev pub printed_after : Job → List File → List Letter → List Sheet
printed_after job files g = sheets_of weighed_conversions job (λ v. gathered_value weighed_semiring weighed_conversions job files v g)

-- What each rank makes of all that the ranks have for each other, and its piece of the value on the global data: for each
-- value and rank.
abbrev pub values_of : Job → List File → Pick → Each (Value Weighed)
values_of job files pick = eval weighed_semiring weighed_conversions job files pick

abbrev pub listed : Job → ℕ → Table Weighed → List Shown
listed job k t = map (shown_cell weighed_conversions) (cells_of (size_of job (shape job k).rows) (width_of job (shape job k)) t)

abbrev pub made_at : Job → List File → Pick → ℕ → ℕ → List Shown
made_at job files pick k p =
    listed job k (made_piece weighed_semiring weighed_conversions job files p k (all_pieces weighed_semiring weighed_conversions job files (values_of job files pick) p)
    (met_after weighed_semiring weighed_conversions job files pick k (values_of job files pick) (stage_count job k) p))

abbrev pub piece_at : Job → List File → Pick → ℕ → ℕ → List Shown
piece_at job files pick k p = listed job k (piece_of job (shape job k) p (values_of job files pick k))

abbrev pub at_each : Job → (ℕ → ℕ → List Shown) → List (List Shown)
at_each job f = flat_map (λ k. map (f k) (count_from 0 job.ranks)) (count_from 0 (value_count job))

-- the row law of every value at every rank
abbrev pub AreMade : Job → List File → Pick → Type 0
AreMade job files pick = at_each job (made_at job files pick) ≡ at_each job (piece_at job files pick)

-- ---- the matrix a, the vector x

abbrev pub a_file : File
a_file = file 3 3 (entry 0 0 (pos 2) ∷ entry 0 2 (pos 5) ∷ entry 2 0 (negsuc 0) ∷ entry 1 1 (pos 3) ∷ [])

abbrev pub x_file : File
x_file = file 3 1 (entry 0 0 (pos 1) ∷ entry 1 0 (pos 10) ∷ entry 2 0 (pos 100) ∷ [])

abbrev pub a_and_x : ℕ → MapForm → Bool → List Step → Job
a_and_x ranks form is_split steps = record {
  ranks = ranks;
  maps = map_of (codes "u") 3 form ∷ map_of (codes "c") 3 Cyclic ∷ [];
  vectors = vector_of (codes "x") 0 read ∷ [];
  parts = [];
  matrices = record { name = codes "A"; split = is_split; rows = 0; domain = 0; file = codes "a.mtx" } ∷ [];
  steps = steps;
}

abbrev pub files : List File
files = x_file ∷ a_file ∷ []

-- y is A applied to x
abbrev pub apply_a : Bool → Step
apply_a transposed = step.Apply (codes "y") 1 0 None (pos 1) (pos 0) transposed

-- ---- a wire that changes numbers: by is added to the value and to the weight of each number of a DATA letter

abbrev pub twisted_words : ℕ → ℕ → List ℕ → List ℕ
twisted_words by ℕ.zero bytes = []
twisted_words by (ℕ.suc n) bytes = to_le_bytes w128 ((from_le_bytes w128 (take 16 bytes) + by) % 2 ^ 128) ++ twisted_words by n (drop 16 bytes)

abbrev pub index_bytes : List ℕ → ℕ
index_bytes bytes = 9 + 8 * from_le_bytes w64 (take 8 (drop 1 bytes))

abbrev pub twisted : ℕ → List ℕ → List ℕ
twisted by [] = []
twisted by (kind ∷ rest) =
    if kind == 22 then take (index_bytes (kind ∷ rest)) (kind ∷ rest) ++ twisted_words by ((length (kind ∷ rest) - index_bytes (kind ∷ rest)) / 16) (drop (index_bytes (kind ∷ rest)) (kind ∷ rest))
    else kind ∷ rest

abbrev pub with_twisted : ℕ → Protocol → Name → List Letter → List Letter
with_twisted by P n g = g ++ (n, twisted by (P.content n g)) ∷ []

abbrev pub twisted_run_of : ℕ → Protocol → List Letter → List Name → List Letter
twisted_run_of by P g [] = g
twisted_run_of by P g (n ∷ ns) = twisted_run_of by P (with_twisted by P n g) ns

abbrev pub twisted_run : Job → List File → List Letter
twisted_run job files = twisted_run_of 1 (job_protocol weighed_semiring weighed_conversions job files) [] (letter_names job files)
