-- A vector to which rows come, and the letters of rows by global index.
use Rattle.std.specs.Prelude.{◌≡◌, ℕ, ◌≤◌, ◌^◌, true, List, length, Some}
use Rattle.scalar_laws.specs.Semiring.{Semiring}
use Rattle.scalar_laws.specs.Conversions.{Conversions}
use Rattle.tables.specs.Indices.{AreBelow, AreDistinct, stands}
use Rattle.tables.specs.Tables.{Table, found, only_rows}
use Rattle.map_core.specs.Classes.{indices_at}
use Rattle.map_core.specs.Plans.{PlanLists, export_list, remote_list}
use Rattle.combine_modes.specs.declared.mode.Mode.{Mode}
use Rattle.combine_modes.specs.Modes.{after_one}
use Rattle.letter_codec.specs.Letters.{letter_bytes}
use Rattle.letter_codec.specs.declared.kind.Kind.TheVariants.{Nums}
use Rattle.distributor.specs.Transfers.{TransferState}
use Rattle.multivector.specs.Vectors.{VectorState}
use Rattle.vector_moves.specs.Moves.{own_sources}
use Rattle.model_defs.specs.Machine.{cells_at, place_bytes}
use Rattle.rank_stages.specs.DataLaws.{full_places}
use Rattle.rank_values.specs.Vectors.{global_table}

-- The plan of its rows, how they are combined, and what was gathered so far.
pub record ArrivingState (S : Type 0) : Type 0 where
  pub plan : PlanLists
  pub mode : Mode
  pub vector : VectorState S

-- At most 2^40 rows are sent to each rank.
abbrev pub HasFewRows : PlanLists → Type 0
HasFewRows plan = (q : ℕ) → length (export_list plan q) ≤ 2 ^ 40

-- The positions for the rows of each rank are those of a list, and none of them stands twice.
pub record HasTargets (plan : PlanLists) (list : List ℕ) : Type 0 where
  pub below : (q : ℕ) → AreBelow (length list) (remote_list plan q)
  pub once : (q : ℕ) → AreDistinct (remote_list plan q)

-- It has a transfer by its plan for rows of as many numbers as it has columns.
pub record IsArriving {S : Type 0} (a : ArrivingState S) (transfer : TransferState) : Type 0 where
  pub transfer_is : transfer ≡ record { plan = a.plan; width = Some a.vector.columns }
  pub columns : a.vector.columns ≤ 16
  pub few_rows : HasFewRows a.plan
  pub targets : HasTargets a.plan a.vector.map

-- A table after another one came for its cells, of which none is made and none is lost.
abbrev pub after_table : {S : Type 0} → Semiring S → Mode → Table S → Table S → Table S
after_table R mode old came = λ i j. after_one R mode true (old i j) (came i j)

-- The rows of a vector that stay on their rank, by global index.
abbrev pub own_rows : {S : Type 0} → PlanLists → VectorState S → Table S
own_rows plan v = only_rows (λ g. stands g (indices_at v.map (own_sources plan))) (global_table v)

-- The global indices of the rows that are sent to a rank, where these are of this list, and of those that come from it.
abbrev pub rows_to : PlanLists → List ℕ → ℕ → List ℕ
rows_to plan list q = indices_at list (export_list plan q)

abbrev pub rows_from : PlanLists → List ℕ → ℕ → List ℕ
rows_from plan list q = indices_at list (remote_list plan q)

-- The letter of these rows of a table, each with all its columns.
abbrev pub table_letter : {S : Type 0} → Semiring S → Conversions S → ℕ → Table S → List ℕ → List ℕ
table_letter R F columns t rows = letter_bytes Nums rows (place_bytes R F t (full_places columns rows))

-- The table of the numbers of a letter of these rows.
abbrev pub numbers_table : {S : Type 0} → Conversions S → ℕ → List ℕ → List ℕ → Table S
numbers_table F columns rows numbers = found (cells_at F (full_places columns rows) numbers)
