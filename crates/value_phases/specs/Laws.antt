-- The laws of the phases of jobs.
use Rattle.std.specs.Prelude.{◌≡◌, ℕ, ◌<◌, Some, List, Option, Bool, ℤ, true, false}
use Rattle.model_defs.specs.declared.job.Job.{Job}
use Rattle.model_defs.specs.declared.job.MatrixSpec.{MatrixSpec}
use Rattle.model_defs.specs.declared.job.Step.TheVariants as step
use Rattle.model_defs.specs.Makers.{GivenMatrix, Made, maker_of, value_count}
use Rattle.model_defs.specs.Valid.{IsValid}
use Rattle.rank_stages.specs.DataLaws.{copied_by}
use Rattle.value_phases.specs.ValueKinds.{HasValueKinds, IsApply, IsAssembled, IsGivenSplit, IsMadeMatrix, is_matrix_step}
use Rattle.value_phases.specs.ValuePhases.{HasValuePhases, IsCopy}
use Rattle.value_phases.specs.ValueStages.{HasValueStages}

-- A valid job has such phases.
abbrev pub JobsHaveValuePhases : Type 0
JobsHaveValuePhases = (job : Job) → IsValid job → HasValuePhases job

-- It has such values.
abbrev pub JobsHaveValueKinds : Type 0
JobsHaveValueKinds = (job : Job) → IsValid job → HasValueKinds job

-- Each value of a valid job that is made by `move`, `import`, `spread` or `export` is a copy, be its numbers sent or not.
abbrev pub CopiesHaveSources : Type 0
CopiesHaveSources =
    (job : Job) (k source : ℕ) → IsValid job → k < value_count job → copied_by (maker_of job k) ≡ Some source → IsCopy job k

-- Each one that is made by `apply` is an apply of values before it.
abbrev pub AppliesHaveOperands : Type 0
AppliesHaveOperands =
    (job : Job) (k a x : ℕ) (name : List ℕ) (y : Option ℕ) (alpha beta : ℤ) (transposed : Bool) → IsValid job → k < value_count job
    → maker_of job k ≡ Made (step.Apply name a x y alpha beta transposed) → IsApply job k

-- Each matrix of a file is assembled of its entries, or split as they were dealt.
abbrev pub MatricesAreKnown : Type 0
MatricesAreKnown =
    (job : Job) (k : ℕ) (spec : MatrixSpec) → IsValid job → k < value_count job → maker_of job k ≡ GivenMatrix spec
    → (spec.split ≡ false → IsAssembled job k) × (spec.split ≡ true → IsGivenSplit job k)

-- The transfers of values, and the phases of two of them.
abbrev pub JobsHaveValueStages : Type 0
JobsHaveValueStages = (job : Job) → IsValid job → HasValueStages job

-- Each value that is made by `transpose`, `multiply`, `add` or `assemble` is a matrix of its own.
abbrev pub MadeMatricesHaveOperands : Type 0
MadeMatricesHaveOperands =
    (job : Job) (k : ℕ) → IsValid job → k < value_count job → is_matrix_step (maker_of job k) ≡ true → IsMadeMatrix job k
