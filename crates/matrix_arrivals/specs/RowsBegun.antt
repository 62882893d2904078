-- A matrix as its rank begins it.
use Rattle.std.specs.Prelude.{◌≡◌, ℕ, Bool, true, false, List, Option}
use Rattle.scalar_laws.specs.Semiring.{Semiring}
use Rattle.scalar_laws.specs.Conversions.{Conversions}
use Rattle.tables.specs.Tables.{nowhere}
use Rattle.map_core.specs.Plans.{PlanLists}
use Rattle.combine_modes.specs.Modes.{after_one}
use Rattle.combine_modes.specs.declared.mode.Mode.{Mode}
use Rattle.combine_modes.specs.declared.mode.Mode.TheVariants.{Add}
use Rattle.crs_matrix.specs.Rows.{RowCells, row_table}
use Rattle.matrix_moves.specs.Arrivals.{after_table}
use Rattle.matrix_moves.specs.Sources.{own_rows}
use Rattle.mm_text.specs.Reading.{File}
use Rattle.model_defs.specs.declared.job.Job.{Job}
use Rattle.model_defs.specs.declared.job.Step.TheVariants as step
use Rattle.model_defs.specs.declared.phase.Transfer.{Transfer}
use Rattle.model_defs.specs.Makers.{GivenMatrix, Made, Maker, maker_of}
use Rattle.model_defs.specs.Plans.{brought}
use Rattle.model_defs.specs.Stages.{Arrivals, Target, first_pieces, is_fixed, onto_piece, rank_entries, target_at, transfer_at}
use Rattle.matrix_arrivals.specs.RowPlans.{IsServing}

-- The rows that stay are what the job's transfer brings from the rank to itself.
abbrev pub OwnRowsAreBrought : Type 0 → Type 0
OwnRowsAreBrought S =
    (job : Job) (files : List File) (t : Transfer) (p : ℕ) (target : List ℕ) (plan : PlanLists) (a : RowCells S)
    → IsServing job files t p a.rows target plan → own_rows plan a ≡ brought job files t (row_table a) p p

-- whether a matrix is gathered onto no places, its numbers added: a statement that does not say it otherwise
abbrev pub is_plain : Maker → Bool
is_plain (GivenMatrix spec) = true
is_plain (Made (step.Move name source m)) = true
is_plain (Made (step.Transpose name a)) = true
is_plain (Made (step.Multiply name a b)) = true
is_plain (Made (step.Add name a b alpha beta)) = true
is_plain _ = false

module _ {S : Type 0} (R : Semiring S) (F : Conversions S) where
  -- onto what rank p gathers what comes for value k at a stage
  abbrev pub onto : (job : Job) (files : List File) (p : ℕ) → Arrivals R F job files → ℕ → ℕ → Target S
  onto job files p arrivals k stage = target_at R F job files p k stage (first_pieces R F job files p arrivals k)

  -- What is begun of the rank's entries is what the job's rank gathers first at the stage: what it brings to itself, combined
  -- with what the value is gathered onto.
  abbrev pub RowsAreBegun : Type 0
  RowsAreBegun =
      (job : Job) (files : List File) (k stage p : ℕ) (arrivals : Arrivals R F job files) (plan : PlanLists) (a old new : RowCells S)
      → is_fixed job k ≡ false → IsServing job files (transfer_at job k stage) p a.rows old.rows plan
      → row_table a ≡ rank_entries R F job files p arrivals k stage
      → row_table old ≡ (onto job files p arrivals k stage).old
      → row_table new ≡ after_table R (onto job files p arrivals k stage).mode (row_table old) (own_rows plan a)
      → row_table new
      ≡ (λ i j. after_one R (onto job files p arrivals k stage).mode (is_fixed job k) ((onto job files p arrivals k stage).old i j)
      (brought job files (transfer_at job k stage) (rank_entries R F job files p arrivals k stage) p p i j))

  -- Onto what: onto no places, where the statement does not say it,
  abbrev pub PlainRowsAreAdded : Type 0
  PlainRowsAreAdded =
      (job : Job) (files : List File) (k stage p : ℕ) (arrivals : Arrivals R F job files) → is_plain (maker_of job k) ≡ true → is_fixed job k ≡ false
      → ((onto job files p arrivals k stage).mode ≡ Add) × ((onto job files p arrivals k stage).old ≡ nowhere)

  -- and a matrix that is assembled onto the rank's piece of the one that it names, if it does.
  abbrev pub AssembledRowsAreCombined : Type 0
  AssembledRowsAreCombined =
      (job : Job) (files : List File) (k stage p : ℕ) (arrivals : Arrivals R F job files) (name : List ℕ) (source : ℕ) (base : Option ℕ) (mode : Mode)
      → maker_of job k ≡ Made (step.Assemble name source base mode)
      → ((onto job files p arrivals k stage).mode ≡ mode) × ((onto job files p arrivals k stage).old ≡ onto_piece (first_pieces R F job files p arrivals k) base)
