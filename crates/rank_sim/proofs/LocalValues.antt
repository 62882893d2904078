-- Jobs without letters: whatever is picked, the ranks' pieces together are the values on the global data.
use Rattle.std.proofs.Common.{◌≡◌, ℕ, zero, suc, ◌<◌, cond, eqb, List, [], refl, ap, ◌∙◌}
use Rattle.std.specs.List.{list_all}
use Rattle.scalar_laws.specs.Semiring.{Semiring, IsSemiring}
use Rattle.scalar_laws.specs.Conversions.{Conversions, AreConversions}
use Rattle.mm_text.specs.Reading.{File}
use Rattle.peers.specs.Protocols.{stands_in}
use Rattle.model_defs.specs.declared.job.Job.{Job}
use Rattle.model_defs.specs.declared.job.Step.TheVariants as step
use Rattle.model_defs.specs.CompleteRuns.{IsCompleteRun}
use Rattle.model_defs.specs.Eval.{Pick, eval, first_values, make_value}
use Rattle.model_defs.specs.Fitting.{IsFitting}
use Rattle.model_defs.specs.Letters.{letter_names, names_of_phases}
use Rattle.model_defs.specs.Local.{IsLocalJob}
use Rattle.model_defs.specs.Machine.{gathered_value, job_protocol}
use Rattle.model_defs.specs.Makers.{Maker, GivenVector, GivenParts, GivenMatrix, Made, maker_of, value_count}
use Rattle.model_defs.specs.Picks.{pick_of}
use Rattle.model_defs.specs.Pieces.{Value}
use Rattle.model_defs.specs.Transfers.{transfers_by}
use Rattle.model_defs.specs.Turns.{Each}
use Rattle.model_defs.specs.Valid.{IsValid}
use Rattle.model_defs.proofs.AllRows.{machine_is_eval}
use Rattle.job_phases.proofs.LocalJobs.{local-maker, no-phases, no-transfers}

pub no-names : (job : Job) (files : List File) → IsLocalJob job → letter_names job files ≡ []
no-names job files local = ap (names_of_phases job files 0) (no-phases job local)

-- ---- the pick does not matter

module _ {S : Type 0} (R : Semiring S) (F : Conversions S) (job : Job) (files : List File) (local : IsLocalJob job) where
  made-alike : (pick other : Pick) (k : ℕ) (before : Each (Value S)) (m : Maker) → transfers_by job k m ≡ []
      → make_value R F job files pick k before m ≡ make_value R F job files other k before m
  made-alike pick other k before (GivenVector spec) e = refl
  made-alike pick other k before (GivenParts spec) e = refl
  made-alike pick other k before (GivenMatrix spec) e = refl
  made-alike pick other k before (Made (step.Move name source m)) e = refl
  made-alike pick other k before (Made (step.Import name source onto mode)) e = refl
  made-alike pick other k before (Made (step.Export name source onto mode)) e = absurd (cc)
  made-alike pick other k before (Made (step.Spread name source m)) e = refl
  made-alike pick other k before (Made (step.Update name x y alpha beta)) e = refl
  made-alike pick other k before (Made (step.Scale name value alpha)) e = refl
  made-alike pick other k before (Made (step.Apply name a x y alpha beta transposed)) e = refl
  made-alike pick other k before (Made (step.Transpose name a)) e = refl
  made-alike pick other k before (Made (step.Multiply name a b)) e = refl
  made-alike pick other k before (Made (step.Add name a b alpha beta)) e = refl
  made-alike pick other k before (Made (step.Assemble name source onto mode)) e = absurd (cc)
  made-alike pick other k before (Made (step.Print value)) e = refl

  firsts-alike : (pick other : Pick) (n : ℕ) → first_values R F job files pick n ≡ first_values R F job files other n
  firsts-alike pick other zero = refl
  firsts-alike pick other (suc n) =
      (λ t v. cond (eqb v n) (make_value R F job files pick n (firsts-alike pick other n t) (maker_of job n)) (firsts-alike pick other n t v))
      ∙ (λ t v. cond (eqb v n) (made-alike pick other n (first_values R F job files other n) (maker_of job n) (no-transfers job n (maker_of job n) (local-maker job local n)) t) (first_values R F job files other n v))

  pub eval-alike : (pick other : Pick) → eval R F job files pick ≡ eval R F job files other
  eval-alike pick other = firsts-alike pick other (value_count job)

  nothing-complete : IsCompleteRun (job_protocol R F job files) []
  nothing-complete = record { comes = tt; exact = tt; complete = ap (list_all (stands_in [])) (no-names job files local) }

-- the pieces together, where nothing is given
pub gathered-is-eval : {S : Type 0} {R : Semiring S} (L : IsSemiring R) {F : Conversions S} (FL : AreConversions F) (job : Job) (files : List File) → IsValid job → IsFitting job files → IsLocalJob job
    → (pick : Pick) (v p : ℕ) → v < value_count job → p < job.ranks → gathered_value R F job files v [] p ≡ eval R F job files pick v p
gathered-is-eval {R = R} L {F = F} FL job files valid fit local pick v p l m =
    machine_is_eval L FL job files valid fit [] (nothing-complete R F job files local) v p l m
    ∙ (λ t. eval-alike R F job files local (pick_of job files []) pick t v p)
