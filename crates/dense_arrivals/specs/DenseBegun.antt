-- A vector as its rank begins it, in a transfer of any value of vectors or parts.
use Rattle.std.specs.Prelude.{◌≡◌, ◌<◌, ℕ, true, List}
use Rattle.scalar_laws.specs.Semiring.{Semiring}
use Rattle.scalar_laws.specs.Conversions.{Conversions}
use Rattle.tables.specs.Indices.{stands}
use Rattle.tables.specs.Tables.{Table}
use Rattle.map_core.specs.Plans.{PlanLists}
use Rattle.multivector.specs.Vectors.{VectorState}
use Rattle.mm_text.specs.Reading.{File}
use Rattle.combine_modes.specs.Modes.{after_one}
use Rattle.model_defs.specs.declared.job.Job.{Job}
use Rattle.model_defs.specs.declared.phase.Transfer.{Transfer}
use Rattle.model_defs.specs.Plans.{brought, passes, sent_rows}
use Rattle.model_defs.specs.Stages.{Arrivals, first_pieces, is_fixed, rank_entries, target_at, transfer_at}
use Rattle.rank_transfers.specs.Arrivals.{HasFewRows, after_table, own_rows}
use Rattle.rank_transfers.specs.JobRows.{CanBegin}
use Rattle.rank_values.specs.Vectors.{global_table}
use Rattle.matrix_arrivals.specs.RowPlans.{IsServing}

-- Two tables have the same numbers at the rows that rank p keeps or sends by a transfer.
abbrev pub AgreeOn : {S : Type 0} → Job → List File → Transfer → ℕ → Table S → Table S → Type 0
AgreeOn job files t p a b =
    ((i j : ℕ) → passes job files t p p i ≡ true → a i j ≡ b i j)
    × ((q i j : ℕ) → q < job.ranks → stands i (sent_rows job files t p q) ≡ true → a i j ≡ b i j)

-- A plan that serves a transfer is one that a vector can be begun by.
abbrev pub ServingPlansCanBegin : Type 0
ServingPlansCanBegin =
    (job : Job) (files : List File) (t : Transfer) (p : ℕ) (source target : List ℕ) (plan : PlanLists)
    → IsServing job files t p source target plan → HasFewRows plan → CanBegin source target plan

module _ {S : Type 0} (R : Semiring S) (F : Conversions S) where
  -- What is begun of a vector that agrees with the rank's entries is what the job's rank gathers first at the stage: what it brings to
  -- itself, combined with what the value is gathered onto.
  abbrev pub CellsAreBegun : Type 0
  CellsAreBegun =
      (job : Job) (files : List File) (k stage p : ℕ) (arrivals : Arrivals R F job files) (plan : PlanLists) (x old new : VectorState S)
      → is_fixed job k ≡ true → IsServing job files (transfer_at job k stage) p x.map old.map plan
      → AgreeOn job files (transfer_at job k stage) p (global_table x) (rank_entries R F job files p arrivals k stage)
      → (let onto = target_at R F job files p k stage (first_pieces R F job files p arrivals k) in
      global_table old ≡ onto.old
      → global_table new ≡ after_table R onto.mode (global_table old) (own_rows plan x)
      → global_table new
      ≡ (λ i j. after_one R onto.mode (is_fixed job k) (onto.old i j)
      (brought job files (transfer_at job k stage) (rank_entries R F job files p arrivals k stage) p p i j)))
