-- What moves between ranks: entries with their cells, and the cells that come for a target.
use Rattle.std.specs.Prelude.{◌≡◌, ℕ, Bool, true, List, [], ◌∷◌, map, take, drop, is_some, slice_get, Some}
use Rattle.std.specs.List.{fold, zip}
use Rattle.std.specs.Option.{unwrap_or}
use Rattle.scalar_laws.specs.Semiring.{Semiring}
use Rattle.tables.specs.declared.Cell.{Cell}
use Rattle.tables.specs.Tables.{Table, with_place}
use Rattle.tables.specs.Indices.{count_from}
use Rattle.combine_modes.specs.declared.mode.Mode.{Mode}
use Rattle.combine_modes.specs.Modes.{after_one}

-- An entry: its global index, and its cells, each with its column.
pub record Entry (S : Type 0) : Type 0 where
  pub gid : ℕ
  pub cells : List (ℕ × S)

-- The entry with this local index.
abbrev pub entry_at : {S : Type 0} → List (Entry S) → ℕ → Entry S
entry_at entries lid = unwrap_or (slice_get entries lid) (record { gid = 0; cells = [] })

-- Entries that each have so many numbers, in the columns from 0 on: an entry for each of these global indices, with the
-- next numbers of the list.
abbrev pub numbered : {S : Type 0} → ℕ → List ℕ → List S → List (Entry S)
numbered width [] numbers = []
numbered width (gid ∷ gids) numbers =
    record { gid = gid; cells = zip (count_from 0 width) (take width numbers) } ∷ numbered width gids (drop width numbers)

-- The columns of an entry.
abbrev pub columns_of : {S : Type 0} → Entry S → List ℕ
columns_of entry = map (λ cell. cell.0) entry.cells

-- The table after one number came for the place.
abbrev pub with_cell : {S : Type 0} → Semiring S → Mode → Bool → Table S → ℕ → ℕ → S → Table S
with_cell R mode fixed t row col value = with_place t row col (after_one R mode fixed (t row col) (Some value))

-- The table after these cells came for it, one after the other.
abbrev pub with_cells : {S : Type 0} → Semiring S → Mode → Bool → Table S → List (Cell S) → Table S
with_cells R mode fixed t cells = fold (λ t cell. with_cell R mode fixed t cell.row cell.col cell.value) t cells

-- The cells of an entry that comes for local index `lid` of a target.
abbrev pub placed : {S : Type 0} → ℕ → ℕ × S → Cell S
placed lid cell = record { row = lid; col = cell.0; value = cell.1 }

abbrev pub cells_for : {S : Type 0} → ℕ → Entry S → List (Cell S)
cells_for lid entry = map (placed lid) entry.cells

-- Each place that is taken has a number.
abbrev pub HasTaken : {S : Type 0} → (ℕ → ℕ → Bool) → Table S → Type 0
HasTaken takes t = (i j : ℕ) → takes i j ≡ true → is_some (t i j) ≡ true
