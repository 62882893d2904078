-- The makers of all values, one after the other.
use Rattle.std.proofs.Common.{◌≡◌, Bool, true, false, cond, List, [], ◌∷◌, ◌++◌, map, filter, length, refl, ap, sym, ◌∙◌, subst}
use Rattle.model_defs.specs.declared.job.Job.{Job}
use Rattle.model_defs.specs.declared.job.Step.{Step}
use Rattle.model_defs.specs.declared.job.Step.TheVariants as step
use Rattle.model_defs.specs.Makers.{Maker, GivenVector, GivenParts, GivenMatrix, Made, gives_value, makers}
use Rattle.model_defs.specs.Valid.{IsPrintable}
use Rattle.job_text.specs.Known.{Known, with_maker, with_step}
use Rattle.job_validity.proofs.Seen.{IsSeen, IsMakerFor, IsVectorFor, IsPartsFor}
use Rattle.job_validity.proofs.StepFacts.{IsStepFor}
use Rattle.job_validity.proofs.Traces.{all_next, AreFor, IsMatrixFor}
use Rattle.job_validity.proofs.Reading.{after_maps, after_vectors, after_parts, after_matrices, IsOfTables}

abbrev pub AreMade : Known → List Maker → Type 0
AreMade known ms = AreFor with_maker IsMakerFor known ms

-- one list after another
made-append : (xs ys : List Maker) (known : Known) → AreMade known xs → AreMade (all_next with_maker known xs) ys → AreMade known (xs ++ ys)
made-append [] ys known h g = g
made-append (x ∷ xs) ys known h g = (h.0, made-append xs ys (with_maker known x) h.1 g)

next-append : (xs ys : List Maker) (known : Known) → all_next with_maker known (xs ++ ys) ≡ all_next with_maker (all_next with_maker known xs) ys
next-append [] ys known = refl
next-append (x ∷ xs) ys known = next-append xs ys (with_maker known x)

-- the tables of an array as makers
module _ {A : Type 0} (wrap : A → Maker) (For : Known → A → Type 0) (each : (known : Known) (x : A) → For known x → IsMakerFor known (wrap x)) where
  made-map : (xs : List A) (known : Known) → AreFor (λ k x. with_maker k (wrap x)) For known xs → AreMade known (map wrap xs)
  made-map [] known h = tt
  made-map (x ∷ xs) known h = (each known x h.0, made-map xs (with_maker known (wrap x)) h.1)

next-map : {A : Type 0} (wrap : A → Maker) (xs : List A) (known : Known) → all_next (λ k x. with_maker k (wrap x)) known xs ≡ all_next with_maker known (map wrap xs)
next-map wrap [] known = refl
next-map wrap (x ∷ xs) known = next-map wrap xs (with_maker known (wrap x))

-- a statement that gives a value, and one that prints
step-made : (known : Known) (s : Step) → IsStepFor known s → gives_value s ≡ true → IsMakerFor known (Made s)
step-made known (step.Move name source m) h e = h
step-made known (step.Import name source onto mode) h e = h
step-made known (step.Export name source onto mode) h e = h
step-made known (step.Spread name source m) h e = h
step-made known (step.Update name x y alpha beta) h e = h
step-made known (step.Scale name value alpha) h e = h
step-made known (step.Apply name a x y alpha beta transposed) h e = h
step-made known (step.Transpose name a) h e = h
step-made known (step.Multiply name a b) h e = h
step-made known (step.Add name a b alpha beta) h e = h
step-made known (step.Assemble name source onto mode) h e = h
step-made known (step.Print value) h e = absurd (cc)

pub step-printable : (job : Job) (known : Known) (s : Step) → IsStepFor known s → IsSeen job known → IsPrintable job (length known.values) s
step-printable job known (step.Move name source m) h seen = tt
step-printable job known (step.Import name source onto mode) h seen = tt
step-printable job known (step.Export name source onto mode) h seen = tt
step-printable job known (step.Spread name source m) h seen = tt
step-printable job known (step.Update name x y alpha beta) h seen = tt
step-printable job known (step.Scale name value alpha) h seen = tt
step-printable job known (step.Apply name a x y alpha beta transposed) h seen = tt
step-printable job known (step.Transpose name a) h seen = tt
step-printable job known (step.Multiply name a b) h seen = tt
step-printable job known (step.Add name a b alpha beta) h seen = tt
step-printable job known (step.Assemble name source onto mode) h seen = tt
step-printable job known (step.Print value) h seen = h job seen

-- the makers among the statements
abbrev pub step_makers : List Step → List Maker
step_makers steps = map Made (filter gives_value steps)

made-steps : (steps : List Step) (known : Known) → AreFor with_step IsStepFor known steps → AreMade known (step_makers steps)
made-steps [] known h = tt
made-steps (s ∷ ss) known h = by (gives_value s) (step-made known s h.0) (made-steps ss) h.1
  where
    by : (b : Bool) → (b ≡ true → IsMakerFor known (Made s)) → ((k : Known) → AreFor with_step IsStepFor k ss → AreMade k (step_makers ss))
        → AreFor with_step IsStepFor (cond b (with_maker known (Made s)) known) ss → AreMade known (map Made (cond b (s ∷ filter gives_value ss) (filter gives_value ss)))
    by true one rest g = (one refl, rest (with_maker known (Made s)) g)
    by false one rest g = rest known g

-- ---- of a job

module _ (job : Job) where
  abbrev vectors : List Maker
  vectors = map GivenVector job.vectors

  abbrev parts : List Maker
  parts = map GivenParts job.parts

  abbrev matrices : List Maker
  matrices = map GivenMatrix job.matrices

  -- the makers of the given values
  abbrev pub given_makers : List Maker
  given_makers = vectors ++ parts ++ matrices

  after-vectors : after_vectors job ≡ all_next with_maker (after_maps job) vectors
  after-vectors = next-map GivenVector job.vectors (after_maps job)

  after-parts : after_parts job ≡ all_next with_maker (after_maps job) (vectors ++ parts)
  after-parts = next-map GivenParts job.parts (after_vectors job) ∙ ap (λ k. all_next with_maker k parts) after-vectors ∙ sym (next-append vectors parts (after_maps job))

  pub after-given : after_matrices job ≡ all_next with_maker (after_maps job) given_makers
  after-given = next-map GivenMatrix job.matrices (after_parts job) ∙ ap (λ k. all_next with_maker k matrices) after-parts ∙ sym (next-append (vectors ++ parts) matrices (after_maps job))

  pub all-made : IsOfTables job → AreMade (after_maps job) (makers job)
  all-made h =
      made-append given_makers (step_makers job.steps) (after_maps job)
      (made-append (vectors ++ parts) matrices (after_maps job)
      (made-append vectors parts (after_maps job) (made-map GivenVector IsVectorFor (λ k x f. f.maker) job.vectors (after_maps job) h.vectors)
      (subst (λ k. AreMade k parts) after-vectors (made-map GivenParts IsPartsFor (λ k x f. f.maker) job.parts (after_vectors job) h.parts)))
      (subst (λ k. AreMade k matrices) after-parts (made-map GivenMatrix IsMatrixFor (λ k x f. f) job.matrices (after_parts job) h.matrices)))
      (subst (λ k. AreMade k (step_makers job.steps)) after-given (made-steps job.steps (after_matrices job) h.steps))
