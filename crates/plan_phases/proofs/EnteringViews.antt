-- Where the view of a rank that entered a phase is what its book has.
use Rattle.std.proofs.Common.{◌≡◌, ℕ, List, Option, subst}
use Rattle.scalar_laws.specs.Semiring.{Semiring}
use Rattle.scalar_laws.specs.Conversions.{Conversions}
use Rattle.tables.specs.Tables.{Table}
use Rattle.mm_text.specs.Reading.{File}
use Rattle.rank_phases.specs.Stages.{Stage}
use Rattle.model_defs.specs.declared.job.Job.{Job}
use Rattle.model_defs.specs.declared.phase.Plan.{Plan}
use Rattle.rank_stages.specs.JobStages.{IsJobStage}
use Rattle.rank_stages.specs.Views.{View}

-- what a view has of maps and plans
pub record Learnt : Type 0 where
  pub directory : ℕ → ℕ → Option ℕ
  pub asked : Plan → ℕ → List ℕ
  pub owners : Plan → ℕ → Option ℕ
  pub told : Plan → ℕ → List ℕ

abbrev pub with_learnt : {S : Type 0} → View S → (ℕ → Option (Table S)) → Learnt → View S
with_learnt view values l = record view { values = values; directory = l.directory; asked = l.asked; owners = l.owners; told = l.told }

-- it may be said in other words
pub stage-said : {S : Type 0} (R : Semiring S) (F : Conversions S) (job : Job) (files : List File) (view : View S) (s : Stage) (values : ℕ → Option (Table S)) (a b : Learnt)
    → a.directory ≡ b.directory → a.asked ≡ b.asked → a.owners ≡ b.owners → a.told ≡ b.told
    → IsJobStage R F job files (with_learnt view values a) s → IsJobStage R F job files (with_learnt view values b) s
stage-said R F job files view s values a b d q o t h =
    subst (λ v. IsJobStage R F job files v s) (λ i. with_learnt view values (record { directory = d i; asked = q i; owners = o i; told = t i })) h
