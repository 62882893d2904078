-- Transfers: a plan, and which cells it brings to a target.
use Rattle.std.specs.Prelude.{◌≡◌, ℕ, ◌+◌, ◌*◌, ◌^◌, ◌<◌, Bool, List, [], ◌∷◌, ◌++◌, map, length, Option, Some}
use Rattle.std.specs.List.{flat_map, zip}
use Rattle.scalar_laws.specs.Semiring.{Semiring}
use Rattle.tables.specs.declared.Cell.{Cell}
use Rattle.tables.specs.Tables.{Table}
use Rattle.tables.specs.Indices.{count_from}
use Rattle.byte_pool.specs.Blocks.{BlockState, free_block}
use Rattle.map_core.specs.Plans.{PlanLists, export_list}
use Rattle.combine_modes.specs.declared.mode.Mode.{Mode}
use Rattle.distributor.specs.Entries.{Entry, entry_at, cells_for, with_cells}

-- A transfer by a plan: of rows of any cells, or of entries that each have `width` numbers.
pub record TransferState : Type 0 where
  pub plan : PlanLists
  pub width : Option ℕ

-- The length of a letter of so many entries that each have `width` numbers: the kind, the number of its words, 8 bytes for
-- each word and 32 for each number.
abbrev pub nums_length : ℕ → ℕ → ℕ
nums_length entries width = 9 + 8 * entries + 32 * (entries * width)

-- The lengths of the letters to the ranks with these export lists. There is none for an empty list.
abbrev pub lengths_for : ℕ → List ℕ → List ℕ
lengths_for width [] = []
lengths_for width (p ∷ ps) = nums_length (length (p ∷ ps)) width ∷ []

abbrev pub letter_lengths : ℕ → List (List ℕ) → List ℕ
letter_lengths width lists = flat_map (lengths_for width) lists

-- Each of its letters has fewer than 2^64 bytes.
abbrev pub LettersFit : TransferState → Type 0
LettersFit t = (width : ℕ) → t.width ≡ Some width → (q : ℕ) → q < t.plan.ranks → nums_length (length (export_list t.plan q)) width < 2 ^ 64

-- So many free blocks were reserved as the first of these lengths say.
pub record IsPartReserved (lengths : List ℕ) (old new : List BlockState) : Type 0 where
  pub made : List ℕ
  pub missing : List ℕ
  pub lengths_are : lengths ≡ made ++ missing
  pub pool : new ≡ old ++ map free_block made

-- Which source position comes to which target position on the rank itself: the same ones ascending, then the permuted
-- ones in the order of their lists.
abbrev pub same_moves : ℕ → List (ℕ × ℕ)
same_moves n = map (λ i. (i, i)) (count_from 0 n)

abbrev pub own_moves : PlanLists → List (ℕ × ℕ)
own_moves p = same_moves p.same ++ zip p.permute_from p.permute_to

-- The cells of the entries that come from source positions to target positions: entry after entry, each with its cells in
-- their order.
abbrev pub moved_cells : {S : Type 0} → List (Entry S) → List (ℕ × ℕ) → List (Cell S)
moved_cells entries moves = flat_map (λ move. cells_for move.1 (entry_at entries move.0)) moves

-- Of these cells a first part came for the table, one after the other.
pub record IsPartOf {S : Type 0} (R : Semiring S) (mode : Mode) (fixed : Bool) (old : Table S) (cells : List (Cell S)) (new : Table S) : Type 0 where
  pub done : List (Cell S)
  pub rest : List (Cell S)
  pub cells_are : cells ≡ done ++ rest
  pub table : new ≡ with_cells R mode fixed old done
