-- A matrix to which rows come.
use Rattle.std.specs.Prelude.{◌≡◌, ℕ, false, List, ◌++◌, length, None}
use Rattle.std.specs.List.{flat_map}
use Rattle.scalar_laws.specs.Semiring.{Semiring}
use Rattle.scalar_laws.specs.Conversions.{Conversions}
use Rattle.tables.specs.declared.Cell.{Cell}
use Rattle.tables.specs.Indices.{AreBelow, AreDistinct, count_from}
use Rattle.tables.specs.Tables.{Table, all_cells, found}
use Rattle.map_core.specs.Classes.{indices_at}
use Rattle.map_core.specs.Plans.{PlanLists, remote_list}
use Rattle.combine_modes.specs.declared.mode.Mode.{Mode}
use Rattle.combine_modes.specs.Modes.{after_one}
use Rattle.letter_codec.specs.Letters.{IsLetter, letter_bytes}
use Rattle.letter_codec.specs.declared.kind.Kind.TheVariants.{Rows}
use Rattle.distributor.specs.Transfers.{TransferState}
use Rattle.crs_matrix.specs.Rows.{RowCells}
use Rattle.model_defs.specs.Letters.{row_words}
use Rattle.model_defs.specs.Machine.{cells_at}
use Rattle.model_defs.specs.Plans.{One}

-- The plan of its rows, how they are combined, and what was gathered so far.
pub record ArrivingRowsState (S : Type 0) : Type 0 where
  pub plan : PlanLists
  pub mode : Mode
  pub fill : RowCells S

-- The positions for the rows of each rank are those of a list, and none of them stands twice.
pub record HasTargets (plan : PlanLists) (list : List ℕ) : Type 0 where
  pub below : (q : ℕ) → AreBelow (length list) (remote_list plan q)
  pub once : (q : ℕ) → AreDistinct (remote_list plan q)

-- It has a transfer of rows by its plan.
pub record IsArrivingRows {S : Type 0} (a : ArrivingRowsState S) (transfer : TransferState) : Type 0 where
  pub transfer_is : transfer ≡ record { plan = a.plan; width = None }
  pub targets : HasTargets a.plan a.fill.rows

-- A table after another one came for its places, each of which may be absent.
abbrev pub after_table : {S : Type 0} → Semiring S → Mode → Table S → Table S → Table S
after_table R mode old came = λ i j. after_one R mode false (old i j) (came i j)

-- The global indices of the rows that come from a rank, where the target's are of this list.
abbrev pub rows_from : PlanLists → List ℕ → ℕ → List ℕ
rows_from plan list q = indices_at list (remote_list plan q)

-- These bytes are a letter of these rows: whichever places below a width each has, and whichever numbers they have.
pub record IsPlacesLetter (bytes rows : List ℕ) : Type 0 where
  pub places : Table One
  pub width : ℕ
  pub numbers : List ℕ
  pub letter : IsLetter Rows (flat_map (row_words places width) rows) numbers
  pub whole : bytes ≡ letter_bytes Rows (flat_map (row_words places width) rows) numbers

-- The cells of the letter, row after row.
abbrev pub cells_of_letter : {S : Type 0} → Conversions S → (bytes rows : List ℕ) → IsPlacesLetter bytes rows → List (Cell S)
cells_of_letter F bytes rows letter = cells_at F (all_cells letter.places rows (count_from 0 letter.width)) letter.numbers

-- A first part of these cells came for a table.
pub record IsPartGathered {S : Type 0} (R : Semiring S) (mode : Mode) (old : Table S) (cells : List (Cell S)) (new : Table S) : Type 0 where
  pub done : List (Cell S)
  pub rest : List (Cell S)
  pub cells_are : cells ≡ done ++ rest
  pub table : new ≡ after_table R mode old (found done)
