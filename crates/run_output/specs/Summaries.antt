-- The summary of a run of the job that is made of a size: of its sheets of y, s and z, and of the number of its letters.
use Rattle.std.specs.Prelude.{ℕ, List, [], ◌∷◌, Option, None, Some, length, codes, decimal}
use Rattle.std.specs.Fmt.{signed_decimal}
use Rattle.scalar_laws.specs.Number.{Number, number, over, num, plus, zero_number}
use Rattle.mm_text.specs.declared.shown.Shown.{Shown}
use Rattle.mm_text.specs.Written.{lines_text}
use Rattle.model_defs.specs.declared.sheets.Sheet.{Sheet}
use Rattle.run_output.specs.declared.summary.Summary.{Summary}

-- the sum of the values of cells, each with its magnitude
abbrev pub cell_sum : List Shown → Number
cell_sum [] = zero_number
cell_sum (cell ∷ cells) = plus (num cell.value) (cell_sum cells)

-- four lines: the size, how many places s has, the sums of y and of z, and how many letters there are
abbrev pub line_words : List ℕ → List ℕ → List ℕ → List ℕ → List ℕ → List (List (List ℕ))
line_words size entries y z letters =
    (codes "gen" ∷ size ∷ []) ∷ (codes "entries" ∷ entries ∷ []) ∷ (codes "sum" ∷ y ∷ z ∷ []) ∷ (codes "letters" ∷ letters ∷ []) ∷ []

abbrev pub summary_text : Summary → List ℕ
summary_text s = lines_text (line_words (decimal s.size) (decimal s.entries) (signed_decimal s.y) (signed_decimal s.z) (decimal s.letters))

-- the summary where these are the sums; none where one of them is over
abbrev pub summary_by : ℕ → ℕ → Number → Number → ℕ → Option Summary
summary_by size entries over z letters = None
summary_by size entries (number y v) over letters = None
summary_by size entries (number y v) (number z w) letters = Some (record { size = size; entries = entries; y = y; z = z; letters = letters })

-- the summary by the sheets of a run, which are those of y, s and z
abbrev pub summary_of : ℕ → List Sheet → ℕ → Option Summary
summary_of size (y ∷ s ∷ z ∷ []) letters = summary_by size (length s.cells) (cell_sum y.cells) (cell_sum z.cells) letters
summary_of size sheets letters = None
