-- How many values a rank has made after so many phases.
use Rattle.std.proofs.Common.{◌≡◌, ℕ, zero, suc, ◌<◌, ◌≤◌, ◌⊎◌, inl, inr, List, [], ◌∷◌, length, Option, None, Some, refl, sym, ap, ◌∙◌, subst, arith}
use Rattle.std.specs.Prelude.{slice_get}
use Rattle.std.proofs.lemmas.Bool.{cases_lt}
use Rattle.std.proofs.lemmas.Option.{slice_get_within}
use Rattle.model_defs.specs.declared.job.Job.{Job}
use Rattle.model_defs.specs.declared.phase.Phase.{Phase}
use Rattle.model_defs.specs.Makers.{value_count}
use Rattle.model_defs.specs.Phases.{phases, send_phase}
use Rattle.rank_stages.specs.JobStages.{IsMade}
use Rattle.rank_stages.proofs.SendPhases.{send-phase-is}
use Rattle.value_phases.specs.ValuePhases.{HasValuePhases}
use Rattle.rank_core.specs.Pieces.{count_before, made_count}

-- a place in a list, or none
pub at-place : {A : Type 0} (xs : List A) (n : ℕ) → ((x : A) × (slice_get xs n ≡ Some x)) ⊎ ((slice_get xs n ≡ None) × (length xs ≤ n))
at-place [] n = inr (refl, omega arith)
at-place (x ∷ xs) zero = inl (x, refl)
at-place (x ∷ xs) (suc n) = elim (at-place xs n) [ inl a ↦ inl a | inr (none, long) ↦ inr (none, omega arith) ]

pub there-at : {A : Type 0} (xs : List A) (n : ℕ) → n < length xs → (x : A) × (slice_get xs n ≡ Some x)
there-at [] n l = absurd (omega arith)
there-at (x ∷ xs) zero l = (x, refl)
there-at (x ∷ xs) (suc n) l = there-at xs n (omega arith)

pub none-beyond : {A : Type 0} (xs : List A) (n : ℕ) → length xs ≤ n → slice_get xs n ≡ None
none-beyond [] n l = refl
none-beyond (x ∷ xs) zero l = absurd (omega arith)
none-beyond (x ∷ xs) (suc n) l = none-beyond xs n (omega arith)

pub past-of : {A : Type 0} (xs : List A) (n : ℕ) → slice_get xs n ≡ None → length xs ≤ n
past-of xs n e = elim (at-place xs n) [ inl (x, at) ↦ absurd (let bad : None ≡ Some x = sym e ∙ at in let wrong : ⊥ = cc in wrong) | inr (none, long) ↦ long ]

-- the phase that was entered last is for the next value
pub value-here : {A : Type 0} (job : Job) (pieces : List A) (entered : ℕ) → length pieces ≡ made_count job entered → (n : ℕ) → suc n ≡ entered → (x : Phase) → slice_get (phases job) n ≡ Some x
    → x.value ≡ length pieces
value-here job pieces entered many n here x at = sym (ap (count_before job) at) ∙ ap (made_count job) here ∙ sym many

module _ (job : Job) (phased : HasValuePhases job) where
  pub sent-below : (k t m : ℕ) → send_phase job k t ≡ Some m → m < length (phases job)
  sent-below k t m e = let p = send-phase-is job k t m e in slice_get_within (phases job) m p.phase p.is

  -- at each phase
  pub count-at : (n : ℕ) (phase : Phase) → slice_get (phases job) n ≡ Some phase → made_count job (suc n) ≡ phase.value
  count-at n phase at = ap (count_before job) at

  pub count-end : (n : ℕ) → length (phases job) ≤ n → made_count job (suc n) ≡ value_count job
  count-end n l = ap (count_before job) (none-beyond (phases job) n l)

  pub count-most : (n : ℕ) → made_count job n ≤ value_count job
  count-most zero = omega arith
  count-most (suc n) = elim (at-place (phases job) n) [
    | inl (phase, at) ↦ let below = phased.below n phase at in let same = count-at n phase at in omega arith
    | inr (none, long) ↦ let same = count-end n long in omega arith
  ]

  -- of the values that were made all numbers came in phases that were left
  pub made-left : (n v t m : ℕ) → v < made_count job (suc n) → send_phase job v t ≡ Some m → m < n
  made-left n v t m l e = elim (at-place (phases job) n) [
    | inl (phase, at) ↦ let same = count-at n phase at in phased.left n v t m phase at (omega arith) e
    | inr (none, long) ↦ let low = sent-below v t m e in omega arith
  ]

  pub made-made : (n v : ℕ) → v < made_count job n → (v < value_count job) × IsMade job n v
  made-made zero v l = absurd (omega arith)
  made-made (suc n) v l = (
    (let most = count-most (suc n) in omega arith),
    record { begun = omega arith; left = λ u t m low e. let before = made-left n u t m (omega arith) e in omega arith },
  )

  -- the values that are made grow in number
  pub count-grows : (n : ℕ) → n ≤ length (phases job) → made_count job n ≤ made_count job (suc n)
  count-grows zero l = omega arith
  count-grows (suc m) l = elim (at-place (phases job) m) [
    | inl (a, at) ↦ elim (at-place (phases job) (suc m)) [
      | inl (b, next) ↦
          let one = count-at m a at in
          let two = count-at (suc m) b next in
          let order = phased.in_order m (suc m) a b at next (omega arith) in omega arith
      | inr (none, long) ↦ let two = count-end (suc m) long in let most = count-most (suc m) in omega arith
    ]
    | inr (none, long) ↦ absurd (omega arith)
  ]
