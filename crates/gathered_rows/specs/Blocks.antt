-- The cells that ranks have, each rank those of the rows that it owns.
use Rattle.std.specs.Prelude.{◌≡◌, ℕ, ◌+◌, Bool, true, ◌&&◌, nat_le, nat_lt, List, [], ◌∷◌, length}
use Rattle.std.specs.List.{flat_map, list_all}
use Rattle.std.specs.Global.{Vec}
use Rattle.map_core.specs.Uniform.{uniform_first, uniform_count}
use Rattle.tables.specs.declared.Cell.{Cell}
use Rattle.gathered_rows.specs.Sorting.{all_places}

-- The cells of all blocks, one block after the other.
abbrev pub cells_in : {S : Type 0} → List (Vec (Cell S)) → List (Cell S)
cells_in blocks = flat_map (λ block. block.items) blocks

-- Whether rank q owns row i in the contiguous uniform map of so many rows over P ranks.
abbrev pub owns_row : ℕ → ℕ → ℕ → ℕ → Bool
owns_row P rows q i = nat_le (uniform_first P rows q) i && nat_lt i (uniform_first P rows q + uniform_count P rows q)

-- The first block has only rows of rank q, the next only rows of rank q + 1, and so on.
abbrev pub AreOwnedFrom : {S : Type 0} → ℕ → ℕ → ℕ → List (Vec (Cell S)) → Type 0
AreOwnedFrom P rows q [] = Unit {0}
AreOwnedFrom P rows q (block ∷ blocks) = (all_places (λ i j. owns_row P rows q i) block.items ≡ true) × AreOwnedFrom P rows (q + 1) blocks

-- One block for each rank, with rows that it owns.
abbrev pub AreOwned : {S : Type 0} → ℕ → ℕ → List (Vec (Cell S)) → Type 0
AreOwned P rows blocks = (length blocks ≡ P) × AreOwnedFrom P rows 0 blocks

-- Every row of the first cells is before every row of the second.
abbrev pub rows_before : {S : Type 0} → List (Cell S) → List (Cell S) → Bool
rows_before cells later = list_all (λ c. list_all (λ d. nat_lt c.row d.row) later) cells

-- The rows of each block are before those of the later ones.
abbrev pub AreAscending : {S : Type 0} → List (Vec (Cell S)) → Type 0
AreAscending [] = Unit {0}
AreAscending (block ∷ blocks) = (rows_before block.items (cells_in blocks) ≡ true) × AreAscending blocks
