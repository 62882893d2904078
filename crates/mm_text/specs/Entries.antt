-- The entry lines.
use Rattle.std.specs.Prelude.{◌==◌, ◌&&◌, ◌||◌, ◌+◌, ◌-◌, ◌/◌, ◌%◌, ℕ, pos, Bool, true, false, List, [], ◌∷◌, Option, Some, None, Ok, Err, nat_lt, option_and_then, option_map, if◌then◌else◌}
use Rattle.mm_text.specs.declared.reading.banner.Banner.{Banner}
use Rattle.mm_text.specs.declared.reading.banner.Kind.{Kind}
use Rattle.mm_text.specs.declared.reading.banner.Kind.TheVariants as kind
use Rattle.mm_text.specs.declared.reading.entries.Cell.{Cell}
use Rattle.mm_text.specs.declared.fault.MmFault.TheVariants.{BadLine, OutOfRange, SkewDiagonal, NumberTooWide}
use Rattle.mm_text.specs.declared.file_data.Line.{Line}
use Rattle.mm_text.specs.declared.file_data.Mirror.{Mirror}
use Rattle.mm_text.specs.declared.file_data.Mirror.TheVariants as mirror
use Rattle.mm_text.specs.declared.reading.numerals.Number.{Number}
use Rattle.mm_text.specs.declared.reading.numerals.Number.TheVariants.{Value, TooWide}
use Rattle.mm_text.specs.declared.reading.sizes.Sizes.{Sizes}
use Rattle.mm_text.specs.Lines.{Text, one_word, two_words, three_words, words_of}
use Rattle.mm_text.specs.Numerals.{count_of, value_of, in_width}
use Rattle.mm_text.specs.Outcomes.{Outcome, ◌>>=◌, or_fault}

-- an entry at a place that is counted from 0, where its number is not too wide
abbrev pub narrow : ℕ → ℕ → ℕ → Number → Outcome Line
narrow number row col (Value value) = Ok (record { row = row; col = col; value = value })
narrow number row col TooWide = Err (NumberTooWide number)

abbrev pub is_negated : Mirror → Bool
is_negated mirror.Negated = true
is_negated mirror.Plain = false
is_negated mirror.Same = false

-- not from 1 to the size
abbrev pub is_out : ℕ → ℕ → Bool
is_out size i = (i == 0) || nat_lt size i

-- an entry at a place that is counted from 1
abbrev pub entry_placed : Mirror → Sizes → ℕ → Cell → Outcome Line
entry_placed m s number cell =
    if is_out s.rows cell.row || is_out s.cols cell.col then Err (OutOfRange number)
    else (if is_negated m && (cell.row == cell.col) then Err (SkewDiagonal number)
    else narrow number (cell.row - 1) (cell.col - 1) cell.number)

abbrev pub all_three : Option ℕ → Option ℕ → Option Number → Option Cell
all_three (Some i) (Some j) (Some number) = Some (record { row = i; col = j; number = number })
all_three _ _ _ = None

-- a place and a value
abbrev pub valued_cell : List Text → Option Cell
valued_cell words =
    option_and_then (λ w. all_three (count_of w.0) (count_of w.1) (option_map in_width (value_of w.2))) (three_words words)

-- a place alone, whose value is 1
abbrev pub pattern_cell : List Text → Option Cell
pattern_cell words =
    option_and_then (λ w. all_three (count_of w.0) (count_of w.1) (Some (Value (pos 1)))) (two_words words)

-- a number alone
abbrev pub dense_number : List Text → Option Number
dense_number words = option_and_then (λ w. option_map in_width (value_of w)) (one_word words)

-- the entry of a place that may be missing
abbrev pub entry_of_cell : Mirror → Sizes → ℕ → Option Cell → Outcome Line
entry_of_cell m s number cell = or_fault (BadLine number) cell >>= entry_placed m s number

-- the entry of a number that may be missing; the values of an array come column by column
abbrev pub entry_of_number : Sizes → ℕ → ℕ → Option Number → Outcome Line
entry_of_number s line at number = or_fault (BadLine line) number >>= narrow line (at % s.rows) (at / s.rows)

-- the entry of a line with this number, where `at` entries stand before it
abbrev pub entry_by : Kind → Mirror → Sizes → ℕ → ℕ → List Text → Outcome Line
entry_by kind.Valued m s number at words = entry_of_cell m s number (valued_cell words)
entry_by kind.Pattern m s number at words = entry_of_cell m s number (pattern_cell words)
entry_by kind.Dense m s number at words = entry_of_number s number at (dense_number words)

abbrev pub entry_of : Banner → Sizes → ℕ → ℕ → List Text → Outcome Line
entry_of banner s number at words = entry_by banner.kind banner.mirror s number at words

-- the entries of lines with their numbers, where `at` entries stand before them
abbrev pub entries_of : Banner → Sizes → ℕ → List (ℕ × Text) → Outcome (List Line)
entries_of banner s at [] = Ok []
entries_of banner s at (line ∷ lines) = do
  entry ← entry_of banner s line.0 at (words_of line.1)
  entries ← entries_of banner s (at + 1) lines
  Ok (entry ∷ entries)
