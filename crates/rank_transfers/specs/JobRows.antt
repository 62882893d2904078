-- The transfer of a rank of a job by the plan of an import or of an export: what `Arriving` asks of the plan, and which of the
-- job's rows its rows are.
use Rattle.std.specs.Prelude.{◌≡◌, ℕ, ◌<◌, List, length}
use Rattle.tables.specs.Indices.{AreBelow}
use Rattle.map_core.specs.Classes.{indices_at, permuted, places, same_count}
use Rattle.map_core.specs.Plans.{IsPlan, PlanLists, export_list, remote_list}
use Rattle.multivector.specs.Vectors.{VectorState}
use Rattle.vector_moves.specs.Moves.{AreMoves, own_sources, own_targets}
use Rattle.mm_text.specs.Reading.{File}
use Rattle.model_defs.specs.declared.job.Job.{Job}
use Rattle.model_defs.specs.Maps.{list_of}
use Rattle.model_defs.specs.Plans.{brought, remote, sent_rows}
use Rattle.model_defs.specs.declared.phase.Plan.TheVariants.{ImportPlan, ExportPlan}
use Rattle.model_defs.specs.Transfers.{from_owners, to_owners}
use Rattle.model_defs.specs.Valid.{IsValid}
use Rattle.rank_values.specs.Vectors.{global_table}
use Rattle.rank_transfers.specs.Arrivals.{HasFewRows, HasTargets, own_rows, rows_from, rows_to}

-- A plan of rank p has the lists of an import from one map of the job to another: what is the same and permuted in its lists of
-- the two, the positions of what each rank lacks of it, and the positions of what it lacks of each rank.
pub record IsJobImport (job : Job) (files : List File) (source target p : ℕ) (plan : PlanLists) : Type 0 where
  pub is_plan : IsPlan plan
  pub ranks : plan.ranks ≡ job.ranks
  pub same : plan.same ≡ same_count (list_of job source p) (list_of job target p)
  pub permute_to : plan.permute_to ≡ permuted (list_of job source p) (list_of job target p)
  pub permute_from : plan.permute_from
      ≡ places (list_of job source p) (indices_at (list_of job target p) (permuted (list_of job source p) (list_of job target p)))
  pub exports : (q : ℕ) → q < job.ranks
      → export_list plan q ≡ places (list_of job source p) (remote job files (ImportPlan source target) q p)
  pub remotes : (q : ℕ) → q < job.ranks
      → remote_list plan q ≡ places (list_of job target p) (remote job files (ImportPlan source target) p q)

-- A plan of rank p has the lists of an export from one map of the job to another: what is the same and permuted in its lists of
-- the two, the positions of what it gives to each rank, and the positions of what each rank gives to it.
pub record IsJobExport (job : Job) (files : List File) (source target p : ℕ) (plan : PlanLists) : Type 0 where
  pub is_plan : IsPlan plan
  pub ranks : plan.ranks ≡ job.ranks
  pub same : plan.same ≡ same_count (list_of job source p) (list_of job target p)
  pub permute_to : plan.permute_to
      ≡ places (list_of job target p) (indices_at (list_of job source p) (permuted (list_of job target p) (list_of job source p)))
  pub permute_from : plan.permute_from ≡ permuted (list_of job target p) (list_of job source p)
  pub exports : (q : ℕ) → q < job.ranks
      → export_list plan q ≡ places (list_of job source p) (remote job files (ExportPlan source target) p q)
  pub remotes : (q : ℕ) → q < job.ranks
      → remote_list plan q ≡ places (list_of job target p) (remote job files (ExportPlan source target) q p)

-- What a vector is begun by it asks of a plan for vectors on these lists.
pub record CanBegin (source target : List ℕ) (plan : PlanLists) : Type 0 where
  pub own : AreMoves source target (own_sources plan) (own_targets plan)
  pub targets : HasTargets plan target
  pub few_rows : HasFewRows plan

abbrev pub ImportsCanBegin : Type 0
ImportsCanBegin =
    (job : Job) (files : List File) (source target p : ℕ) (plan : PlanLists) → IsValid job → IsJobImport job files source target p plan
    → CanBegin (list_of job source p) (list_of job target p) plan

-- The rows that it sends are those that the job's transfer sends, and its positions are those of the source.
abbrev pub RowsAreSent : Type 0
RowsAreSent =
    (job : Job) (files : List File) (source target p q : ℕ) (plan : PlanLists) → IsJobImport job files source target p plan
    → q < job.ranks
    → (rows_to plan (list_of job source p) q ≡ sent_rows job files (from_owners (ImportPlan source target)) p q)
    × AreBelow (length (list_of job source p)) (export_list plan q)

-- So are those that come.
abbrev pub RowsCome : Type 0
RowsCome =
    (job : Job) (files : List File) (source target p q : ℕ) (plan : PlanLists) → IsJobImport job files source target p plan
    → q < job.ranks
    → rows_from plan (list_of job target p) q ≡ sent_rows job files (from_owners (ImportPlan source target)) q p

-- The rows that stay are what the job's transfer brings from the rank to itself.
abbrev pub OwnRowsAreBrought : Type 0 → Type 0
OwnRowsAreBrought S =
    (job : Job) (files : List File) (source target p : ℕ) (plan : PlanLists) (v : VectorState S) → IsJobImport job files source target p plan
    → v.map ≡ list_of job source p
    → own_rows plan v ≡ brought job files (from_owners (ImportPlan source target)) (global_table v) p p

-- The same of an export.
abbrev pub ExportsCanBegin : Type 0
ExportsCanBegin =
    (job : Job) (files : List File) (source target p : ℕ) (plan : PlanLists) → IsValid job → IsJobExport job files source target p plan
    → CanBegin (list_of job source p) (list_of job target p) plan

abbrev pub ExportsAreSent : Type 0
ExportsAreSent =
    (job : Job) (files : List File) (source target p q : ℕ) (plan : PlanLists) → IsJobExport job files source target p plan
    → q < job.ranks
    → (rows_to plan (list_of job source p) q ≡ sent_rows job files (to_owners (ExportPlan source target)) p q)
    × AreBelow (length (list_of job source p)) (export_list plan q)

abbrev pub ExportsCome : Type 0
ExportsCome =
    (job : Job) (files : List File) (source target p q : ℕ) (plan : PlanLists) → IsJobExport job files source target p plan
    → q < job.ranks
    → rows_from plan (list_of job target p) q ≡ sent_rows job files (to_owners (ExportPlan source target)) q p

-- What stays are the rows that the rank has and owns.
abbrev pub OwnExportsAreBrought : Type 0 → Type 0
OwnExportsAreBrought S =
    (job : Job) (files : List File) (source target p : ℕ) (plan : PlanLists) (v : VectorState S) → IsJobExport job files source target p plan
    → v.map ≡ list_of job source p
    → own_rows plan v ≡ brought job files (to_owners (ExportPlan source target)) (global_table v) p p
