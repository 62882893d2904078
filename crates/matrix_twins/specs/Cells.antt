-- Cells of a transposed matrix.
use Rattle.tables.specs.declared.Cell.{Cell}

-- the cell with its row as its column
abbrev pub turned_over : {S : Type 0} → Cell S → Cell S
turned_over c = record { row = c.col; col = c.row; value = c.value }
