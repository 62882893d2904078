-- The coordinate text of a matrix, and whether it has one.
use Rattle.std.specs.Prelude.{ℕ, pos, Bool, List, map, None}
use Rattle.std.specs.List.{list_any}
use Rattle.std.specs.Option.{unwrap_or}
use Rattle.scalar_laws.specs.Semiring.{Semiring}
use Rattle.scalar_laws.specs.Conversions.{Conversions}
use Rattle.tables.specs.declared.Cell.{Cell}
use Rattle.tables.specs.Tables.{Table, cells_of}
use Rattle.mm_text.specs.declared.shown.Shown.{Shown}
use Rattle.mm_text.specs.Reading.{File}
use Rattle.mm_text.specs.Written.{coordinate_text}
use Rattle.model_defs.specs.FileMatrix.{file_matrix}

-- a cell as it is printed; what is over has no value to print
abbrev pub shown_cell : {S : Type 0} → Conversions S → Cell S → Shown
shown_cell F c = record { row = c.row; col = c.col; value = unwrap_or (F.shown c.value) (pos 0) }

-- the coordinate text of a matrix of this size: its places by row, then column
abbrev pub matrix_text : {S : Type 0} → Conversions S → ℕ → ℕ → Table S → List ℕ
matrix_text F rows cols t = coordinate_text rows cols None (map (shown_cell F) (cells_of rows cols t))

-- some place of the matrix has a number that is over
abbrev pub any_over : {S : Type 0} → Conversions S → ℕ → ℕ → Table S → Bool
any_over F rows cols t = list_any (λ c. F.is_over c.value) (cells_of rows cols t)

-- the coordinate text of the matrix of a file
abbrev pub show_text : {S : Type 0} → Semiring S → Conversions S → File → List ℕ
show_text R F file = matrix_text F file.rows file.cols (file_matrix R F file.mirror file.lines)

-- some place of the matrix of a file is over
abbrev pub is_file_over : {S : Type 0} → Semiring S → Conversions S → File → Bool
is_file_over R F file = any_over F file.rows file.cols (file_matrix R F file.mirror file.lines)
