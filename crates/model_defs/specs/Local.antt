-- Jobs without letters: each rank makes its pieces of all values by itself.
use Rattle.std.specs.Prelude.{◌≡◌, All, []}
use Rattle.model_defs.specs.declared.job.Job.{Job}
use Rattle.model_defs.specs.declared.job.Step.{Step}
use Rattle.model_defs.specs.declared.job.Step.TheVariants as step

-- statements that go cell by cell, or print
abbrev pub IsLocalStep : Step → Type 0
IsLocalStep (step.Update name x y alpha beta) = Unit {0}
IsLocalStep (step.Scale name value alpha) = Unit {0}
IsLocalStep (step.Print value) = Unit {0}
IsLocalStep _ = ⊥

-- no matrix is given, and all statements are of this kind
pub record IsLocalJob (job : Job) : Type 0 where
  pub matrices : job.matrices ≡ []
  pub steps : All IsLocalStep job.steps
