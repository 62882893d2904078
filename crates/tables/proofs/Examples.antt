-- The definitions computed on small matrices of natural numbers.
use Rattle.std.proofs.Common.{◌≡◌, ℕ, List, [], ◌∷◌, ◌++◌, refl, ◌+◌, ◌*◌, max, map, None, Some}
use Rattle.scalar_laws.specs.Semiring.{Semiring}
use Rattle.tables.specs.declared.Cell.{Cell}
use Rattle.tables.specs.Indices.{count_from, dealt, each_rank}
use Rattle.tables.specs.Tables.{table_of, found, cells_of, block_cells, sum_of, columns_of}

abbrev numbers : Semiring ℕ
numbers = record { nought = 0; one = 1; plus = ◌+◌; times = ◌*◌; top = max }

abbrev c : ℕ → ℕ → ℕ → Cell ℕ
c i j v = record { row = i; col = j; value = v }

-- Entries in any order are listed by row, then column.
abbrev file : List (Cell ℕ)
file = c 2 0 1 ∷ c 0 2 5 ∷ c 1 1 3 ∷ c 0 0 2 ∷ []

listed : cells_of 3 3 (table_of numbers file) ≡ c 0 0 2 ∷ c 0 2 5 ∷ c 1 1 3 ∷ c 2 0 1 ∷ []
listed = refl

-- Two entries at one place are added.
added : cells_of 2 2 (table_of numbers (c 1 0 4 ∷ c 0 1 2 ∷ c 1 0 3 ∷ [])) ≡ c 0 1 2 ∷ c 1 0 7 ∷ []
added = refl

-- A place whose sum is zero is still there, and differs from a place that no entry names.
zero_stays : cells_of 2 2 (table_of numbers (c 0 1 0 ∷ [])) ≡ c 0 1 0 ∷ []
zero_stays = refl

zero_there : table_of numbers (c 0 1 0 ∷ []) 0 1 ≡ Some 0
zero_there = refl

absent : table_of numbers (c 0 1 0 ∷ []) 1 0 ≡ None
absent = refl

-- No entries, no cells.
empty : cells_of 3 3 (table_of numbers []) ≡ []
empty = refl

-- Places beyond the sizes are not listed.
cut : cells_of 1 2 (table_of numbers file) ≡ c 0 0 2 ∷ []
cut = refl

-- A look-up in the cells that were listed.
looked_up : found (cells_of 3 3 (table_of numbers file)) 1 1 ≡ Some 3
looked_up = refl

-- The entries 0 and 2 go to rank 0 of two, the entries 1 and 3 to rank 1; the dealt parts add up to the whole.
first_dealt : dealt 2 0 file ≡ c 2 0 1 ∷ c 1 1 3 ∷ []
first_dealt = refl

second_dealt : dealt 2 1 file ≡ c 0 2 5 ∷ c 0 0 2 ∷ []
second_dealt = refl

-- Of a hundred elements rank 2 of three has 2, 5, 8, .. 98.
hundred_dealt : dealt 3 2 (count_from 0 100) ≡ map (λ k. 3 * k + 2) (count_from 0 33)
hundred_dealt = refl

dealt_whole : cells_of 3 3 (sum_of numbers (each_rank 2 (λ r. table_of numbers (dealt 2 r file)))) ≡ cells_of 3 3 (table_of numbers file)
dealt_whole = refl

-- The cells of the rows 0 and 1, then those of the last row, are the cells of the whole.
blocks : block_cells 0 2 3 (table_of numbers file) ++ block_cells 2 1 3 (table_of numbers file) ≡ cells_of 3 3 (table_of numbers file)
blocks = refl

-- The columns with a place in the rows 0 and 2.
columns : columns_of 3 (0 ∷ 2 ∷ []) (table_of numbers file) ≡ 0 ∷ 2 ∷ []
columns = refl
