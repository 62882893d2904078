-- The values of a job, and what makes each of them.
use Rattle.std.specs.Prelude.{ℕ, Bool, true, false, List, [], ◌++◌, map, length, filter}
use Rattle.std.specs.List.{slice_index_or}
use Rattle.model_defs.specs.declared.job.Job.{Job}
use Rattle.model_defs.specs.declared.job.VectorSpec.{VectorSpec}
use Rattle.model_defs.specs.declared.job.PartsSpec.{PartsSpec}
use Rattle.model_defs.specs.declared.job.MatrixSpec.{MatrixSpec}
use Rattle.model_defs.specs.declared.job.Step.{Step}
use Rattle.model_defs.specs.declared.job.Step.TheVariants as step

-- A value is given, or made by a statement.
pub data Maker : Type 0 where
  GivenVector : VectorSpec → Maker
  GivenParts : PartsSpec → Maker
  GivenMatrix : MatrixSpec → Maker
  Made : Step → Maker

-- every statement gives a value but one that prints
abbrev pub gives_value : Step → Bool
gives_value (step.Print value) = false
gives_value _ = true

-- the makers of the values, which are numbered in this order: vectors, parts, matrices, then the statements
abbrev pub makers : Job → List Maker
makers job =
    map GivenVector job.vectors ++ map GivenParts job.parts ++ map GivenMatrix job.matrices
    ++ map Made (filter gives_value job.steps)

abbrev pub value_count : Job → ℕ
value_count job = length (makers job)

abbrev pub maker_of : Job → ℕ → Maker
maker_of job k = slice_index_or (makers job) k (Made (step.Print 0))

-- the name of the value that a statement gives
abbrev pub step_name : Step → List ℕ
step_name (step.Move name source m) = name
step_name (step.Import name source onto mode) = name
step_name (step.Export name source onto mode) = name
step_name (step.Spread name source m) = name
step_name (step.Update name x y alpha beta) = name
step_name (step.Scale name value alpha) = name
step_name (step.Apply name a x y alpha beta transposed) = name
step_name (step.Transpose name a) = name
step_name (step.Multiply name a b) = name
step_name (step.Add name a b alpha beta) = name
step_name (step.Assemble name source onto mode) = name
step_name (step.Print value) = []

-- the name of a value
abbrev pub maker_name : Maker → List ℕ
maker_name (GivenVector spec) = spec.name
maker_name (GivenParts spec) = spec.name
maker_name (GivenMatrix spec) = spec.name
maker_name (Made step) = step_name step
