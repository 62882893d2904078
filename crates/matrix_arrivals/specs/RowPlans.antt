-- A plan by which a rank of a job sends rows, and those of the job's transfer.
use Rattle.std.specs.Prelude.{◌≡◌, ◌<◌, ◌≤◌, ℕ, List, length}
use Rattle.tables.specs.Indices.{AreBelow, AreDistinct, stands}
use Rattle.map_core.specs.Classes.{indices_at, permuted, places, same_count}
use Rattle.map_core.specs.Plans.{IsPlan, PlanLists, export_list, remote_list, reversed}
use Rattle.vector_moves.specs.Moves.{AreMoves, own_sources, own_targets}
use Rattle.matrix_moves.specs.Arrivals.{HasTargets, rows_from}
use Rattle.matrix_moves.specs.Sources.{rows_to}
use Rattle.mm_text.specs.Reading.{File}
use Rattle.model_defs.specs.declared.job.Job.{Job}
use Rattle.model_defs.specs.declared.phase.Plan.{Plan}
use Rattle.model_defs.specs.declared.phase.Plan.TheVariants.{ImportPlan}
use Rattle.model_defs.specs.declared.phase.Transfer.{Transfer}
use Rattle.model_defs.specs.Maps.{list_of}
use Rattle.model_defs.specs.Plans.{owns, passes, rank_list_by, remote, sent_rows}
use Rattle.model_defs.specs.Transfers.{from_owners, owner_map, to_owners}
use Rattle.model_defs.specs.Valid.{IsValid}
use Rattle.rank_transfers.specs.JobRows.{IsJobImport}

-- Two lists of a rank by a plan of the job: of the indices that it owns, and of those that it has by the plan, which other ranks
-- may have too. Each is in whatever order.
pub record AreListed (job : Job) (files : List File) (shared : Plan) (p : ℕ) (owners list : List ℕ) : Type 0 where
  pub owned : (g : ℕ) → stands g owners ≡ owns job files shared p g
  pub listed : (g : ℕ) → stands g list ≡ stands g (rank_list_by job files shared p)
  pub distinct_owners : AreDistinct owners
  pub distinct_list : AreDistinct list

-- The plan of an import of the rank from its own indices to its list: what is the same and permuted in the two, the positions of
-- what each rank lacks of it, and the positions of what it lacks of each rank. The plan of an export is one in reverse.
pub record IsFromOwners (job : Job) (files : List File) (shared : Plan) (p : ℕ) (owners list : List ℕ) (plan : PlanLists) : Type 0 where
  pub is_plan : IsPlan plan
  pub ranks : plan.ranks ≡ job.ranks
  pub same : plan.same ≡ same_count owners list
  pub permute_to : plan.permute_to ≡ permuted owners list
  pub permute_from : plan.permute_from ≡ places owners (indices_at list (permuted owners list))
  pub exports : (q : ℕ) → q < job.ranks → export_list plan q ≡ places owners (remote job files shared q p)
  pub remotes : (q : ℕ) → q < job.ranks → remote_list plan q ≡ places list (remote job files shared p q)

-- A plan with positions in these lists serves a transfer of the job: rank p keeps, sends and is sent the rows of the transfer,
-- and the plan is as `ArrivingRows` asks of it.
pub record IsServing (job : Job) (files : List File) (t : Transfer) (p : ℕ) (source target : List ℕ) (plan : PlanLists) : Type 0 where
  pub ranks : plan.ranks ≡ job.ranks
  pub own : AreMoves source target (own_sources plan) (own_targets plan)
  pub kept : (g : ℕ) → stands g (indices_at source (own_sources plan)) ≡ passes job files t p p g
  pub sent : (q : ℕ) → q < job.ranks → rows_to plan source q ≡ sent_rows job files t p q
  pub sources : (q : ℕ) → AreBelow (length source) (export_list plan q)
  pub few : (q : ℕ) → length (export_list plan q) ≤ length source
  pub come : (q : ℕ) → q < job.ranks → rows_from plan target q ≡ sent_rows job files t q p
  pub targets : HasTargets plan target

abbrev pub FromOwnersServe : Type 0
FromOwnersServe =
    (job : Job) (files : List File) (shared : Plan) (p : ℕ) (owners list : List ℕ) (plan : PlanLists) → IsValid job
    → AreListed job files shared p owners list → IsFromOwners job files shared p owners list plan
    → IsServing job files (from_owners shared) p owners list plan

-- In reverse it serves the transfer to the owners.
abbrev pub ToOwnersServe : Type 0
ToOwnersServe =
    (job : Job) (files : List File) (shared : Plan) (p : ℕ) (owners list : List ℕ) (plan : PlanLists) → IsValid job
    → AreListed job files shared p owners list → IsFromOwners job files shared p owners list plan
    → IsServing job files (to_owners shared) p list owners (reversed plan)

-- The lists of the job itself are such lists.
abbrev pub JobListsAreListed : Type 0
JobListsAreListed =
    (job : Job) (files : List File) (shared : Plan) (p : ℕ) → IsValid job
    → AreListed job files shared p (list_of job (owner_map job shared) p) (rank_list_by job files shared p)

-- A plan with the lists of an import between maps is such a plan.
abbrev pub ImportsAreFromOwners : Type 0
ImportsAreFromOwners =
    (job : Job) (files : List File) (source target p : ℕ) (plan : PlanLists) → IsJobImport job files source target p plan
    → IsFromOwners job files (ImportPlan source target) p (list_of job source p) (list_of job target p) plan
