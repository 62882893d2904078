-- The lines that give a rank the cells of its indices.
use Rattle.std.specs.Prelude.{ℕ, ℤ, Bool, ◌&&◌, ◌==◌, List, map, filter}
use Rattle.std.specs.List.{flat_map}
use Rattle.tables.specs.Indices.{count_from}
use Rattle.mm_text.specs.declared.file_data.Line.{Line}
use Rattle.rank_share.specs.Ascending.{ascending}

-- whether an entry names row i and column j
abbrev pub names_place : ℕ → ℕ → Line → Bool
names_place i j l = (l.row == i) && (l.col == j)

-- the entry as a line of the index g
abbrev pub at_index : ℕ → Line → Line
at_index g l = record l { row = g }

-- the entries of row i and column j, in file order, as lines of the index g
abbrev pub named_lines : List Line → ℕ → ℕ → ℕ → List Line
named_lines lines g i j = map (at_index g) (filter (names_place i j) lines)

-- the lines of the index g, whose entries stand in row i: column after column
abbrev pub index_lines : List Line → ℕ → ℕ → ℕ → List Line
index_lines lines columns g i = flat_map (named_lines lines g i) (count_from 0 columns)

-- The lines of the indices of a list, ascending by index, then column, then in file order. An index g has its entries in
-- row `row g` of the file.
abbrev pub cell_lines : (ℕ → ℕ) → List ℕ → ℕ → List Line → List Line
cell_lines row list columns lines = flat_map (λ g. index_lines lines columns g (row g)) (ascending list)

-- the line with this number of the index g and column j
abbrev pub filled_line : ℤ → ℕ → ℕ → Line
filled_line v g j = record { row = g; col = j; value = v }

-- one line with this number for each column of the index g
abbrev pub filled_index : ℤ → ℕ → ℕ → List Line
filled_index v columns g = map (filled_line v g) (count_from 0 columns)

abbrev pub filled_lines : List ℕ → ℕ → ℤ → List Line
filled_lines list columns v = flat_map (filled_index v columns) (ascending list)
