-- The files that the written texts are.
use Rattle.std.specs.Prelude.{ℕ, ℤ, ◌/◌, ◌%◌, ◌*◌, ◌≡◌, ◌≤◌, List, Option, All, length, map, unsigned_abs}
use Rattle.std.specs.List.{enumerate_from}
use Rattle.mm_text.specs.Limits.{most_bytes, most_cols, most_rows, profile_of, widest}
use Rattle.mm_text.specs.declared.file_data.Form.TheVariants.{Coordinate, Array}
use Rattle.mm_text.specs.declared.file_data.Line.{Line}
use Rattle.mm_text.specs.declared.file_data.Mirror.TheVariants.{Plain}
use Rattle.mm_text.specs.declared.shown.Shown.{Shown}
use Rattle.mm_text.specs.Reading.{File, IsFile}
use Rattle.mm_text.specs.Written.{ArePlacesWithin, coordinate_text, array_text}

-- a place as the entry of a file
abbrev pub entry_of_cell : Shown → Line
entry_of_cell cell = record { row = cell.row; col = cell.col; value = cell.value }

-- the file whose entries are these places, in the same order
abbrev pub file_of_cells : ℕ → ℕ → List Shown → File
file_of_cells rows cols cells = record { rows = rows; cols = cols; mirror = Plain; lines = map entry_of_cell cells }

-- a value with its number as the entry of a file, where the values come column by column
abbrev pub entry_of_value : ℕ → ℕ × ℤ → Line
entry_of_value rows v = record { row = v.0 % rows; col = v.0 / rows; value = v.1 }

-- the file whose entries are these values, in the same order
abbrev pub file_of_values : ℕ → ℕ → List ℤ → File
file_of_values rows cols values =
    record { rows = rows; cols = cols; mirror = Plain; lines = map (entry_of_value rows) (enumerate_from 0 values) }

-- no magnitude is above the greatest
abbrev pub AreNarrow : List ℤ → Type 0
AreNarrow values = All (λ value. unsigned_abs value ≤ widest) values

-- coordinate text is read as the file of its places
abbrev pub CoordinateTextIsFile : Type 0
CoordinateTextIsFile =
    (rows cols room most : ℕ) (part : Option ℕ) (cells : List Shown)
    → rows ≤ most → most ≤ most_rows → cols ≤ most_cols → length cells ≤ room
    → ArePlacesWithin rows cols cells → AreNarrow (map (λ cell. cell.value) cells)
    → length (coordinate_text rows cols part cells) ≤ most_bytes
    → IsFile (profile_of Coordinate room most) (coordinate_text rows cols part cells) (file_of_cells rows cols cells)

-- array text is read as the file of its values
abbrev pub ArrayTextIsFile : Type 0
ArrayTextIsFile =
    (rows cols room most : ℕ) (values : List ℤ)
    → rows ≤ most → rows ≤ most_cols → cols ≤ most_cols → length values ≡ rows * cols → length values ≤ room
    → AreNarrow values → length (array_text rows cols values) ≤ most_bytes
    → IsFile (profile_of Array room most) (array_text rows cols values) (file_of_values rows cols values)
