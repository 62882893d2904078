-- Vectors and matrices as tables, and the lists of cells that stand for them.
use Rattle.std.specs.Prelude.{◌≡◌, ℕ, ◌+◌, ◌<◌, Bool, true, ◌&&◌, ◌||◌, ◌==◌, nat_lt, if◌then◌else◌, List, [], ◌∷◌, ◌++◌, is_some, Option, None, Some, filter}
use Rattle.std.specs.List.{list_any, list_all}
use Rattle.scalar_laws.specs.Semiring.{Semiring}
use Rattle.tables.specs.declared.Cell.{Cell}
use Rattle.tables.specs.Sums.{total, if_there}
use Rattle.tables.specs.Indices.{count_from}

-- A sparse matrix: the number that stands at (row, column), or None where that place is absent.
-- A place with the number zero is not absent. A vector has its index as the row.
abbrev pub Table : Type 0 → Type 0
Table S = ℕ → ℕ → Option S

-- No place at all.
abbrev pub nowhere : {S : Type 0} → Table S
nowhere i j = None

-- Whether a cell names the place (i, j).
abbrev pub names : {S : Type 0} → ℕ → ℕ → Cell S → Bool
names i j c = (c.row == i) && (c.col == j)

-- The number of a cell, at the place that it names.
abbrev pub part_at : {S : Type 0} → ℕ → ℕ → Cell S → Option S
part_at i j c = if names i j c then Some c.value else None

-- The matrix of a list of cells, as a coordinate file gives it: at each place that is named the sum of the
-- numbers of the cells that name it, also where that sum is zero, and no other place.
abbrev pub table_of : {S : Type 0} → Semiring S → List (Cell S) → Table S
table_of R cells i j = total (if_there R.plus) (part_at i j) cells

-- A look-up: the number of the first cell that names the place.
abbrev pub found : {S : Type 0} → List (Cell S) → Table S
found [] i j = None
found (c ∷ cs) i j = if names i j c then Some c.value else found cs i j

-- The table t, but with v at (row, column).
abbrev pub with_place : {S : Type 0} → Table S → ℕ → ℕ → Option S → Table S
with_place t row col v i j = if (row == i) && (col == j) then v else t i j

-- The rows that pass the test, and no others.
abbrev pub only_rows : {S : Type 0} → (ℕ → Bool) → Table S → Table S
only_rows p t i j = if p i then t i j else None

-- The places in the first rows and columns, and no others.
abbrev pub only_within : {S : Type 0} → ℕ → ℕ → Table S → Table S
only_within rows cols t i j = if nat_lt i rows && nat_lt j cols then t i j else None

-- The sum of matrices: a place is there where one of them has it.
abbrev pub sum_of : {S : Type 0} → Semiring S → List (Table S) → Table S
sum_of R ts i j = total (if_there R.plus) (λ t. t i j) ts

-- The cell of one place, if it is there.
abbrev pub cell_if : {S : Type 0} → ℕ → ℕ → Option S → List (Cell S)
cell_if i j None = []
cell_if i j (Some v) = record { row = i; col = j; value = v } ∷ []

-- The cells of row i at these columns, in their order.
abbrev pub row_cells : {S : Type 0} → Table S → ℕ → List ℕ → List (Cell S)
row_cells t i [] = []
row_cells t i (j ∷ js) = cell_if i j (t i j) ++ row_cells t i js

-- The cells of these rows at these columns: row after row.
abbrev pub all_cells : {S : Type 0} → Table S → List ℕ → List ℕ → List (Cell S)
all_cells t [] js = []
all_cells t (i ∷ is) js = row_cells t i js ++ all_cells t is js

-- The cells of a block of rows, from row `first` on, by row and then column.
abbrev pub block_cells : {S : Type 0} → ℕ → ℕ → ℕ → Table S → List (Cell S)
block_cells first rows cols t = all_cells t (count_from first rows) (count_from 0 cols)

-- The cells of consecutive blocks of rows, one block after the other: the first block begins at row `first` and each
-- further one where the one before it ends.
abbrev pub blocks_of : {S : Type 0} → ℕ → List ℕ → ℕ → Table S → List (Cell S)
blocks_of first [] cols t = []
blocks_of first (rows ∷ sizes) cols t = block_cells first rows cols t ++ blocks_of (first + rows) sizes cols t

-- The cells of a matrix of this size, by row and then column: (0, 0), (0, 1), .. (1, 0), (1, 1), ..
abbrev pub cells_of : {S : Type 0} → ℕ → ℕ → Table S → List (Cell S)
cells_of rows cols t = block_cells 0 rows cols t

-- Whether c stands before d in the order by row and then column.
abbrev pub stands_before : {S : Type 0} → Cell S → Cell S → Bool
stands_before c d = nat_lt c.row d.row || ((c.row == d.row) && nat_lt c.col d.col)

-- The cells ascend strictly by row and then column, so no place is named twice.
abbrev pub AreInOrder : {S : Type 0} → List (Cell S) → Type 0
AreInOrder [] = Unit {0}
AreInOrder (c ∷ cs) = (list_all (stands_before c) cs ≡ true) × AreInOrder cs

-- Every cell names a place in the first rows and columns.
abbrev pub AreWithin : {S : Type 0} → ℕ → ℕ → List (Cell S) → Type 0
AreWithin rows cols cells = list_all (λ c. nat_lt c.row rows && nat_lt c.col cols) cells ≡ true

-- Some place of the matrix, in the first rows and columns, has a number that passes the test.
abbrev pub HasPlace : {S : Type 0} → ℕ → ℕ → (S → Bool) → Table S → Type 0
HasPlace {S} rows cols p t = (i : ℕ) × (j : ℕ) × (v : S) × (i < rows) × (j < cols) × (t i j ≡ Some v) × (p v ≡ true)

-- The columns below `cols` that have a place in some of the rows, ascending.
abbrev pub columns_of : {S : Type 0} → ℕ → List ℕ → Table S → List ℕ
columns_of cols rows t = filter (λ j. list_any (λ i. is_some (t i j)) rows) (count_from 0 cols)
