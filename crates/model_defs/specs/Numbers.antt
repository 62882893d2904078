-- The integers of a job and of its files that have to be numbers of a kind.
use Rattle.std.specs.Prelude.{ℤ, List, [], ◌∷◌, All, IsSome}
use Rattle.std.specs.List.{flat_map}
use Rattle.scalar_laws.specs.Conversions.{Conversions}
use Rattle.mm_text.specs.Reading.{File}
use Rattle.model_defs.specs.declared.job.Job.{Job}
use Rattle.model_defs.specs.declared.job.Origin.{Origin}
use Rattle.model_defs.specs.declared.job.Origin.TheVariants.{Files, Fill}
use Rattle.model_defs.specs.declared.job.Step.{Step}
use Rattle.model_defs.specs.declared.job.Step.TheVariants as step
use Rattle.model_defs.specs.FileMatrix.{HasNumbers}
use Rattle.model_defs.specs.Makers.{Maker, GivenVector, GivenParts, GivenMatrix, Made, makers}

-- the factors of a statement
abbrev pub step_integers : Step → List ℤ
step_integers (step.Update name x y alpha beta) = alpha ∷ beta ∷ []
step_integers (step.Scale name value alpha) = alpha ∷ []
step_integers (step.Apply name a x y alpha beta transposed) = alpha ∷ beta ∷ []
step_integers (step.Add name a b alpha beta) = alpha ∷ beta ∷ []
step_integers _ = []

abbrev pub origin_integers : Origin → List ℤ
origin_integers (Files names) = []
origin_integers (Fill v) = v ∷ []

abbrev pub maker_integers : Maker → List ℤ
maker_integers (GivenVector spec) = origin_integers spec.from
maker_integers (GivenParts spec) = origin_integers spec.from
maker_integers (GivenMatrix spec) = []
maker_integers (Made step) = step_integers step

-- Each integer of the job has a number of the kind, and so has each value of its files, and each mirrored one.
pub record HaveNumbers {S : Type 0} (F : Conversions S) (job : Job) (files : List File) : Type 0 where
  pub stated : All (λ v. IsSome (F.of_file v)) (flat_map maker_integers (makers job))
  pub read : All (λ file. All (λ l. HasNumbers F file.mirror l.value) file.lines) files
