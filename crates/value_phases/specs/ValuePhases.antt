-- What the phases of a job are about, and in which order they make its values.
use Rattle.std.specs.Prelude.{◌≡◌, ℕ, suc, ◌<◌, ◌≤◌, ◌⊎◌, true, false, Bool, [], ◌∷◌, length, Option, None, Some, slice_get}
use Rattle.combine_modes.specs.declared.mode.Mode.{Mode}
use Rattle.combine_modes.specs.declared.mode.Mode.TheVariants.{Replace}
use Rattle.model_defs.specs.declared.job.Job.{Job}
use Rattle.model_defs.specs.declared.job.MatrixSpec.{MatrixSpec}
use Rattle.model_defs.specs.declared.job.Step.TheVariants as step
use Rattle.model_defs.specs.declared.phase.About.TheVariants.{RegisterMap, SendNumbers, SharePlan}
use Rattle.model_defs.specs.declared.phase.Phase.{Phase}
use Rattle.model_defs.specs.declared.phase.Plan.{Plan}
use Rattle.model_defs.specs.declared.phase.Plan.TheVariants.{ImportPlan, ExportPlan, ColumnPlan, RowPlan}
use Rattle.model_defs.specs.declared.phase.Transfer.{Transfer}
use Rattle.model_defs.specs.Limits.{most_columns}
use Rattle.model_defs.specs.Makers.{Maker, GivenMatrix, Made, maker_of, value_count}
use Rattle.model_defs.specs.Phases.{phases, send_phase}
use Rattle.model_defs.specs.Shapes.{shape, is_dense, is_split_sort}
use Rattle.model_defs.specs.Stages.{stage_count}
use Rattle.model_defs.specs.Transfers.{from_owners, to_owners, transfers}
use Rattle.rank_stages.specs.DataLaws.{copied_by}
use Rattle.rank_stages.specs.JobStages.{about_at}
use Rattle.rank_stages.specs.OwnerLaws.{plan_about}

-- The plan is that of an import or of an export between two maps of the job.
pub record IsMapPlan (job : Job) (plan : Plan) : Type 0 where
  pub source : ℕ
  pub target : ℕ
  pub is : (plan ≡ ImportPlan source target) ⊎ (plan ≡ ExportPlan source target)
  pub known_source : source < length job.maps
  pub known_target : target < length job.maps

-- whether a plan is one of the structure of a matrix
abbrev pub is_of_structure : Plan → Bool
is_of_structure (ImportPlan source target) = false
is_of_structure (ExportPlan source target) = false
is_of_structure (ColumnPlan value) = true
is_of_structure (RowPlan value) = true

-- Value k is a matrix with a structure of its own, on two maps of the job.
pub record IsStructured (job : Job) (k : ℕ) : Type 0 where
  pub below : k < value_count job
  pub sparse : is_dense (shape job k).sort ≡ false
  pub own : (shape job k).structure ≡ k
  pub known_rows : (shape job k).rows < length job.maps
  pub known_domain : (shape job k).domain < length job.maps

-- The plan is one of the structure of value k: of its columns, or of its rows where it is given by its entries.
pub record IsStructurePlan (job : Job) (k : ℕ) (plan : Plan) : Type 0 where
  pub structured : IsStructured job k
  pub is : (plan ≡ ColumnPlan k) ⊎ (plan ≡ RowPlan k)

-- the plans that are made for value k
abbrev pub IsPlanOf : Job → ℕ → Plan → Type 0
IsPlanOf job k plan = IsMapPlan job plan ⊎ IsStructurePlan job k plan

-- the transfer of a statement that copies cells: an export gives them to the owners of its target, and all others take them
-- from the owners of their source
abbrev pub copy_transfer : Job → ℕ → ℕ → Maker → Transfer
copy_transfer job k source (Made (step.Export name parts onto mode)) = to_owners (ExportPlan (shape job source).rows (shape job k).rows)
copy_transfer job k source _ = from_owners (ImportPlan (shape job source).rows (shape job k).rows)

-- the value that the cells are combined with, if there is one, and how
abbrev pub onto_of : Maker → Option ℕ
onto_of (Made (step.Import name source onto mode)) = Some onto
onto_of (Made (step.Export name source onto mode)) = Some onto
onto_of _ = None

abbrev pub mode_of : Maker → Mode
mode_of (Made (step.Import name source onto mode)) = mode
mode_of (Made (step.Export name source onto mode)) = mode
mode_of _ = Replace

-- Value k is made of the cells of a value before it by `move`, `import`, `spread` or `export`: of which, and by which transfer.
-- What they are combined with is a value before it, of the same shape. The two are both vectors or parts, or both matrices.
pub record IsCopy (job : Job) (k : ℕ) : Type 0 where
  pub source : ℕ
  pub copied : copied_by (maker_of job k) ≡ Some source
  pub below : k < value_count job
  pub before : source < k
  pub same_kind : is_dense (shape job k).sort ≡ is_dense (shape job source).sort
  pub same_columns : (shape job k).columns ≡ (shape job source).columns
  pub transfers : transfers job k ≡ copy_transfer job k source (maker_of job k) ∷ []
  pub onto : (o : ℕ) → onto_of (maker_of job k) ≡ Some o → (o < k) × (shape job k ≡ shape job o)

-- a value of the job on its maps: a vector or parts have 1 to 16 columns
pub record IsOnMap (job : Job) (k : ℕ) : Type 0 where
  pub known : (shape job k).rows < length job.maps
  pub some_column : is_dense (shape job k).sort ≡ true → 1 ≤ (shape job k).columns
  pub few_columns : is_dense (shape job k).sort ≡ true → (shape job k).columns ≤ most_columns
  pub known_domain : is_dense (shape job k).sort ≡ false → (shape job k).domain < length job.maps

-- What a phase of value k waits for: the numbers of one of its transfers are sent in it or later,
pub record IsBefore (job : Job) (n k : ℕ) : Type 0 where
  pub stage : ℕ
  pub phase : ℕ
  pub sends : send_phase job k stage ≡ Some phase
  pub later : n ≤ phase

-- or all were sent, and the plans of its structure are made.
pub record IsAfter (job : Job) (n k : ℕ) : Type 0 where
  pub structured : IsStructured job k
  pub sent : (stage m : ℕ) → send_phase job k stage ≡ Some m → m < n

-- The phase is for the rows of value k, a matrix of a file: where it is assembled, its numbers are sent in this phase or later, and
-- where it is split, it sends none from here on.
pub record IsRowPhase (job : Job) (n k : ℕ) : Type 0 where
  pub spec : MatrixSpec
  pub is : maker_of job k ≡ GivenMatrix spec
  pub before : spec.split ≡ false → IsBefore job n k
  pub after : spec.split ≡ true → IsAfter job n k

-- The phases of a job.
pub record HasValuePhases (job : Job) : Type 0 where
  pub shapes : (k : ℕ) → k < value_count job → IsOnMap job k
  pub maps : (n m : ℕ) → about_at job n ≡ Some (RegisterMap m) → m < length job.maps
  pub plans : (n : ℕ) (phase : Phase) (plan : Plan) → slice_get (phases job) n ≡ Some phase → plan_about phase.about ≡ Some plan → IsPlanOf job phase.value plan
  -- each phase is for a value; its numbers are sent in this phase or in a later one, or its structure is shared
  pub below : (n : ℕ) (phase : Phase) → slice_get (phases job) n ≡ Some phase → phase.value < value_count job
  pub when : (n : ℕ) (phase : Phase) → slice_get (phases job) n ≡ Some phase → IsBefore job n phase.value ⊎ IsAfter job n phase.value
  -- a column plan is made of a matrix that is there
  pub columns_after : (n k : ℕ) (phase : Phase) → slice_get (phases job) n ≡ Some phase → plan_about phase.about ≡ Some (ColumnPlan k) → IsAfter job n k
  -- a row plan is made of a matrix of a file
  pub row_phases : (n k : ℕ) (phase : Phase) → slice_get (phases job) n ≡ Some phase → plan_about phase.about ≡ Some (RowPlan k) → IsRowPhase job n k
  -- the numbers of the values before it were sent in earlier phases
  pub left : (n v t m : ℕ) (phase : Phase) → slice_get (phases job) n ≡ Some phase → v < phase.value → send_phase job v t ≡ Some m → m < n
  pub in_order : (n m : ℕ) (a b : Phase) → slice_get (phases job) n ≡ Some a → slice_get (phases job) m ≡ Some b → n ≤ m → a.value ≤ b.value
  -- numbers are sent by one of the value's transfers, and those of two transfers of a value in turn, phase after phase
  pub stages : (n t : ℕ) (phase : Phase) → slice_get (phases job) n ≡ Some phase → phase.about ≡ SendNumbers t → t < stage_count job phase.value
  pub in_turn : (n t : ℕ) (phase : Phase) → slice_get (phases job) n ≡ Some phase → phase.about ≡ SendNumbers (suc t)
      → (m : ℕ) × (n ≡ suc m) × (slice_get (phases job) m ≡ Some (record phase { about = SendNumbers t }))
  -- the plans of a new structure are made in phases of its value
  pub column_plans : (k : ℕ) → IsStructured job k
      → (n : ℕ) × (phase : Phase) × (slice_get (phases job) n ≡ Some phase) × (phase.value ≡ k) × (phase.about ≡ SharePlan (ColumnPlan k)) × IsAfter job n k
  pub row_plans : (k : ℕ) → IsStructured job k → is_split_sort (shape job k).sort ≡ true
      → (n : ℕ) × (phase : Phase) × (slice_get (phases job) n ≡ Some phase) × (phase.value ≡ k) × (phase.about ≡ SharePlan (RowPlan k)) × IsAfter job n k
