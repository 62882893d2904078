-- The laws of sums and of matrices, each the contract of a function in the module `laws`.
use Rattle.std.specs.Prelude.{◌≡◌, ℕ, ◌+◌, ◌<◌, ◌≤◌, ◌⊎◌, ◌↔◌, Bool, true, false, ◌&&◌, ◌==◌, nat_lt, nat_le, sum, filter, map, List, [], ◌∷◌, ◌++◌, None, Some}
use Rattle.std.specs.List.{list_any, list_all, flat_map}
use Rattle.std.specs.List.Sorted.{IsPermutation}
use Rattle.std.specs.Option.{option_or}
use Rattle.scalar_laws.specs.Semiring.{Semiring, IsSemiring}
use Rattle.tables.specs.declared.Cell.{Cell}
use Rattle.tables.specs.Sums.{Joining, IsJoining, total, total_below, both_or_one}
use Rattle.tables.specs.Indices.{stands, AreDistinct, AreBelow, each_rank, dealt}
use Rattle.tables.specs.Tables.{Table, table_of, found, with_place, only_rows, only_within, sum_of, block_cells, blocks_of, cells_of, AreInOrder, AreWithin, HasPlace, stands_before}

-- A sum over a list is the sum over the same elements in any other order.
abbrev pub SumsTakeAnyOrder : Type 0 → Type 0 → Type 0
SumsTakeAnyOrder A B =
    (M : Joining B) → IsJoining M → (f : A → B) (xs ys : List A)
    → IsPermutation xs ys → total M f ys ≡ total M f xs

-- Of n ranks some are heard, each once and in any order; the others have nothing to join.
-- Then the sum over those that were heard, as they came, is the sum over all ranks.
abbrev pub ArrivalsAddUp : Type 0 → Type 0
ArrivalsAddUp B =
    (M : Joining B) → IsJoining M → (n : ℕ) (f : ℕ → B) (arrivals : List ℕ)
    → AreDistinct arrivals → AreBelow n arrivals
    → ((q : ℕ) → q < n → stands q arrivals ≡ false → f q ≡ M.unit)
    → total M f arrivals ≡ total_below M n f

-- A matrix does not depend on the order of its cells.
abbrev pub CellsTakeAnyOrder : Type 0 → Type 0
CellsTakeAnyOrder S =
    (R : Semiring S) → IsSemiring R → (xs ys : List (Cell S))
    → IsPermutation xs ys → table_of R ys ≡ table_of R xs

-- The matrix of two lists of cells is the sum of their matrices.
abbrev pub ListsAddUp : Type 0 → Type 0
ListsAddUp S =
    (R : Semiring S) → IsSemiring R → (xs ys : List (Cell S)) (i j : ℕ)
    → table_of R (xs ++ ys) i j ≡ both_or_one R.plus (table_of R xs i j) (table_of R ys i j)

-- One more cell adds its number at its place, or makes the place, and changes no other place.
abbrev pub OneCellIsOnePlace : Type 0 → Type 0
OneCellIsOnePlace S =
    (R : Semiring S) → IsSemiring R → (cells : List (Cell S)) (c : Cell S)
    → let before = table_of R cells in
    table_of R (cells ++ c ∷ []) ≡ with_place before c.row c.col (both_or_one R.plus (before c.row c.col) (Some c.value))

-- Where cells stand in order, the sum at each place is the number that is found there.
abbrev pub OrderedCellsAreFound : Type 0 → Type 0
OrderedCellsAreFound S = (R : Semiring S) (cells : List (Cell S)) → AreInOrder cells → table_of R cells ≡ found cells

-- Cells in order are determined by what is found among them.
abbrev pub OrderedCellsAreUnique : Type 0 → Type 0
OrderedCellsAreUnique S = (xs ys : List (Cell S)) → AreInOrder xs → AreInOrder ys → found xs ≡ found ys → xs ≡ ys

-- The cells of a matrix are in order and within its size.
abbrev pub ListingIsOrdered : Type 0 → Type 0
ListingIsOrdered S = (rows cols : ℕ) (t : Table S) → AreInOrder (cells_of rows cols t) × AreWithin rows cols (cells_of rows cols t)

-- They have every place of the matrix within its size, with its number, and no other place.
abbrev pub ListingHasPlaces : Type 0 → Type 0
ListingHasPlaces S = (rows cols : ℕ) (t : Table S) → found (cells_of rows cols t) ≡ only_within rows cols t

-- No other list in order and within the size has the same places.
abbrev pub ListingIsUnique : Type 0 → Type 0
ListingIsUnique S =
    (rows cols : ℕ) (t : Table S) (cells : List (Cell S)) → AreInOrder cells → AreWithin rows cols cells
    → ((i j : ℕ) → i < rows → j < cols → found cells i j ≡ t i j)
    → cells ≡ cells_of rows cols t

-- A cell of a matrix has a number that passes a test exactly where some place has one.
abbrev pub ListingIsTested : Type 0 → Type 0
ListingIsTested S =
    (rows cols : ℕ) (t : Table S) (p : S → Bool)
    → (list_any (λ c. p c.value) (cells_of rows cols t) ≡ true) ↔ HasPlace rows cols p t

-- In two lists one after the other a place is looked up in the first, and where it is absent there in the second.
abbrev pub FirstListDecides : Type 0 → Type 0
FirstListDecides S = (xs ys : List (Cell S)) (i j : ℕ) → found (xs ++ ys) i j ≡ option_or (found xs i j) (found ys i j)

-- Cells of rows below m in order, then cells of rows from m on in order, are in order.
abbrev pub BlocksAreOrdered : Type 0 → Type 0
BlocksAreOrdered S =
    (m : ℕ) (xs ys : List (Cell S)) → AreInOrder xs → AreInOrder ys
    → list_all (λ c. nat_lt c.row m) xs ≡ true → list_all (λ c. nat_le m c.row) ys ≡ true
    → AreInOrder (xs ++ ys)

-- The blocks of consecutive rows, one after the other, are the cells of the whole.
abbrev pub BlocksAreWhole : Type 0 → Type 0
BlocksAreWhole S = (cols : ℕ) (sizes : List ℕ) (t : Table S) → blocks_of 0 sizes cols t ≡ cells_of (sum sizes) cols t

-- A rank that owns the rows of a block, and no others, has the cells of that block.
abbrev pub OwnedBlockIsListed : Type 0 → Type 0
OwnedBlockIsListed S =
    (size first rows cols : ℕ) (t : Table S) → first + rows ≤ size
    → cells_of size cols (only_rows (λ i. nat_le first i && nat_lt i (first + rows)) t) ≡ block_cells first rows cols t

-- The matrices of the parts that are dealt to P ranks add up to the matrix of the whole list.
-- Here each element of the list is a line that stands for some cells.
abbrev pub DealtLinesAddUp : Type 0 → Type 0 → Type 0
DealtLinesAddUp A S =
    (R : Semiring S) → IsSemiring R → (P : ℕ) → 0 < P → (places : A → List (Cell S)) (lines : List A)
    → sum_of R (each_rank P (λ r. table_of R (flat_map places (dealt P r lines)))) ≡ table_of R (flat_map places lines)

-- Here it is a cell itself.
abbrev pub DealtCellsAddUp : Type 0 → Type 0
DealtCellsAddUp S =
    (R : Semiring S) → IsSemiring R → (P : ℕ) → 0 < P → (cells : List (Cell S))
    → sum_of R (each_rank P (λ r. table_of R (dealt P r cells))) ≡ table_of R cells

-- The rows that the ranks own add up to the matrix, where each row that has a place is owned by one of the P ranks.
abbrev pub OwnedRowsAddUp : Type 0 → Type 0
OwnedRowsAddUp S =
    (R : Semiring S) → IsSemiring R → (P : ℕ) (owner : ℕ → ℕ) (t : Table S)
    → ((i : ℕ) → (owner i < P) ⊎ ((j : ℕ) → t i j ≡ None))
    → sum_of R (each_rank P (λ p. only_rows (λ i. owner i == p) t)) ≡ t

-- A cell put in after cells that do not name its place changes that place alone, and so does another number for a
-- cell that is there.
abbrev pub EditIsOnePlace : Type 0 → Type 0
EditIsOnePlace S =
    (xs ys : List (Cell S)) (c : Cell S) (v : S) → found xs c.row c.col ≡ None
    → (found (xs ++ c ∷ ys) ≡ with_place (found (xs ++ ys)) c.row c.col (Some c.value))
    × (found (xs ++ record c { value = v } ∷ ys) ≡ with_place (found (xs ++ c ∷ ys)) c.row c.col (Some v))

-- A cell put in between the cells before it and the cells after it leaves them in order.
abbrev pub EditIsOrdered : Type 0 → Type 0
EditIsOrdered S =
    (xs ys : List (Cell S)) (c : Cell S) → AreInOrder xs → AreInOrder ys
    → list_all (λ x. stands_before x c) xs ≡ true → list_all (stands_before c) ys ≡ true
    → AreInOrder (xs ++ c ∷ ys)

-- The cells of the rows that pass a test have these rows of the matrix.
abbrev pub ChosenRowsAreKept : Type 0 → Type 0
ChosenRowsAreKept S =
    (R : Semiring S) → IsSemiring R → (p : ℕ → Bool) (cells : List (Cell S))
    → table_of R (filter (λ c. p c.row) cells) ≡ only_rows p (table_of R cells)

-- The rows of a sum are the sum of the rows.
abbrev pub ChosenRowsAddUp : Type 0 → Type 0
ChosenRowsAddUp S =
    (R : Semiring S) → IsSemiring R → (p : ℕ → Bool) (ts : List (Table S))
    → sum_of R (map (only_rows p) ts) ≡ only_rows p (sum_of R ts)
