-- The phases of a job, one after the other: those of a value make its plans and send its numbers, and then make the plans of its
-- structure.
use Rattle.std.proofs.Common.{◌≡◌, ℕ, suc, ◌<◌, ◌≤◌, ◌⊎◌, inl, inr, Bool, true, false, cond, ◌&&◌, ◌||◌, eqb, List, [], ◌∷◌, ◌++◌, Option, None, Some, refl, sym, ap, ◌∙◌, subst, arith}
use Rattle.std.specs.List.{list_any}
use Rattle.std.proofs.lemmas.Bool.{eq-eqb}
use Rattle.std.proofs.lemmas.List.Folds.{list_any-append}
use Rattle.std.proofs.lemmas.Option.{same_Some}
use Rattle.letter_codec.specs.declared.kind.Kind.TheVariants.{Reg, Ask, Tell}
use Rattle.model_defs.specs.declared.job.Job.{Job}
use Rattle.model_defs.specs.declared.phase.About.{About}
use Rattle.model_defs.specs.declared.phase.About.TheVariants.{RegisterMap, AskOwners, TellOwners, SharePlan, SendNumbers}
use Rattle.model_defs.specs.declared.phase.Phase.{Phase}
use Rattle.model_defs.specs.declared.phase.Plan.{Plan}
use Rattle.model_defs.specs.Makers.{value_count}
use Rattle.model_defs.specs.Maps.{is_uniform}
use Rattle.model_defs.specs.Transfers.{owner_map, shared_plan, same_plan}
use Rattle.model_defs.specs.Phases.{Act, MakePlan, Send, phase_for, share_kind, is_registered, find_phases, plan_phases, phases_from, phases, is_stage, sends, acts}
use Rattle.model_defs.specs.Stages.{stage_count}
use Rattle.model_defs.specs.Valid.{IsValid}
use Rattle.model_defs.proofs.Filters.{and, later}
use Rattle.model_defs.proofs.Formed.{either}
use Rattle.model_defs.proofs.Phases.{phases-any}
use Rattle.rank_stages.specs.OwnerLaws.{plan_about}
use Rattle.rank_stages.proofs.KnownPlans.{Each, each-append}
use Rattle.rank_stages.proofs.Prepared.{same-is}
use Rattle.value_phases.specs.ValuePhases.{IsStructured, IsPlanOf}
use Rattle.value_phases.proofs.ActLists.{is_made, is_late_plan, HasFile, IsPlanTime, send_of, IsTurn, IsMaking, AreValueActs}
use Rattle.value_phases.proofs.ValueActs.{acts-are}
use Rattle.value_phases.proofs.MadePlans.{makes}

-- what a phase of value k may be about
abbrev pub IsAboutOf : Job → ℕ → About → Type 0
IsAboutOf job k (RegisterMap m) = Unit {0}
IsAboutOf job k (AskOwners plan) = IsPlanOf job k plan × HasFile job k plan
IsAboutOf job k (TellOwners plan) = IsPlanOf job k plan × HasFile job k plan
IsAboutOf job k (SharePlan plan) = IsPlanOf job k plan × HasFile job k plan
IsAboutOf job k (SendNumbers t) = t < stage_count job k

-- whether it is about a plan of the value's structure
abbrev pub is_late : Job → ℕ → About → Bool
is_late job k (RegisterMap m) = false
is_late job k (AskOwners plan) = is_late_plan job k plan
is_late job k (TellOwners plan) = is_late_plan job k plan
is_late job k (SharePlan plan) = is_late_plan job k plan
is_late job k (SendNumbers t) = false

-- from here on no numbers of the value are sent, and the plan that the phase is about is late; or some are and the phase is not late
abbrev pub IsTime : Job → ℕ → About → List Phase → Type 0
IsTime job k about xs =
    (IsStructured job k × ((t : ℕ) → list_any (sends k t) xs ≡ false) × ((plan : Plan) → plan_about about ≡ Some plan → is_late_plan job k plan ≡ true))
    ⊎ ((is_late job k about ≡ false) × (t : ℕ) × (list_any (sends k t) xs ≡ true))

-- Phases after this one, in order of their values, from this one on.
abbrev pub AreValuePhases : Job → ℕ → Option Phase → List Phase → Type 0
AreValuePhases job low prev [] = Unit {0}
AreValuePhases job low prev (x ∷ xs) =
    (low ≤ x.value) × (x.value < value_count job) × IsAboutOf job x.value x.about × IsTime job x.value x.about (x ∷ xs) × IsTurn prev x
    × AreValuePhases job x.value (Some x) xs

phases-lower : (job : Job) (low high : ℕ) (prev : Option Phase) (xs : List Phase) → low ≤ high → AreValuePhases job high prev xs → AreValuePhases job low prev xs
phases-lower job low high prev [] l h = tt
phases-lower job low high prev (x ∷ xs) l h = (omega (arith, l, h.0), h.1, h.2, h.3, h.4, h.5)

-- where the first one sends no numbers of a second transfer, any phase may stand before
phases-after : (job : Job) (low : ℕ) (prev : Option Phase) (xs : List Phase) → AreValuePhases job low None xs → AreValuePhases job low prev xs
phases-after job low prev [] h = tt
phases-after job low prev (x ∷ xs) h = (h.0, h.1, h.2, h.3, (λ t e. absurd (let none = h.4 t e in let bad : ⊥ = cc in bad)), h.5)

-- ---- the phases that make a plan

record IsFor (job : Job) (k : ℕ) (plan : Plan) (x : Phase) : Type 0 where
  value : x.value ≡ k
  about : IsAboutOf job k x.about
  early : is_late_plan job k plan ≡ false → is_late job k x.about ≡ false
  same : (p : Plan) → plan_about x.about ≡ Some p → plan ≡ p
  quiet : (t : ℕ) → is_stage t x.about ≡ false

and_false : (a b : Bool) → b ≡ false → a && b ≡ false
and_false true b e = e
and_false false b e = refl

unsent : (job : Job) (k : ℕ) (plan : Plan) (v t : ℕ) (xs ys : List Phase) → Each (IsFor job k plan) xs → list_any (sends v t) (xs ++ ys) ≡ list_any (sends v t) ys
unsent job k plan v t [] ys a = refl
unsent job k plan v t (x ∷ xs) ys a =
    ap (λ b. b || list_any (sends v t) (xs ++ ys)) (and_false (eqb x.value v) (is_stage t x.about) (a.0.quiet t)) ∙ unsent job k plan v t xs ys a.1

module _ (job : Job) (k : ℕ) (plan : Plan) (l : k < value_count job) where
  -- the time of the plan, by the phases that come after it
  abbrev IsPlanNow : List Phase → Type 0
  IsPlanNow ys =
      (IsStructured job k × ((t : ℕ) → list_any (sends k t) ys ≡ false) × (is_late_plan job k plan ≡ true))
      ⊎ ((is_late_plan job k plan ≡ false) × (t : ℕ) × (list_any (sends k t) ys ≡ true))

  time-of : (x : Phase) (xs ys : List Phase) → Each (IsFor job k plan) (x ∷ xs) → IsPlanNow ys → IsTime job k x.about (x ∷ xs ++ ys)
  time-of x xs ys a (inl h) = inl (h.0, (λ t. unsent job k plan k t (x ∷ xs) ys a ∙ h.1 t), λ p e. ap (is_late_plan job k) (sym (a.0.same p e)) ∙ h.2)
  time-of x xs ys a (inr h) = inr (a.0.early h.0, h.1, unsent job k plan k h.1 (x ∷ xs) ys a ∙ h.2)

  no-turn : (prev : Option Phase) (x : Phase) → IsFor job k plan x → IsTurn prev x
  no-turn prev x a t e = absurd (let q = a.quiet (suc t) in let s : is_stage (suc t) x.about ≡ true = ap (is_stage (suc t)) e ∙ eq-eqb (suc t) (suc t) refl in let bad : ⊥ = cc in bad)

  phases-before : (prev : Option Phase) (xs ys : List Phase) → Each (IsFor job k plan) xs → IsPlanNow ys → AreValuePhases job k None ys → AreValuePhases job k prev (xs ++ ys)
  phases-before prev [] ys a now h = phases-after job k prev ys h
  phases-before prev (x ∷ xs) ys a now h = (
    (let e = a.0.value in omega (arith, e)),
    (let e = a.0.value in omega (arith, e, l)),
    subst (λ v. IsAboutOf job v x.about) (sym a.0.value) a.0.about,
    subst (λ v. IsTime job v x.about (x ∷ xs ++ ys)) (sym a.0.value) (time-of x xs ys a now),
    no-turn prev x a.0,
    subst (λ v. AreValuePhases job v (Some x) (xs ++ ys)) (sym a.0.value) (phases-before (Some x) xs ys a.1 now h),
  )

  plan-for : (made : List Plan) → IsPlanOf job k plan × HasFile job k plan → Each (IsFor job k plan) (plan_phases job made k plan)
  plan-for made h = by (is_made made (shared_plan job plan))
    where
      reg : IsFor job k plan (phase_for k Reg (RegisterMap (owner_map job plan)))
      reg = record { value = refl; about = tt; early = λ e. refl; same = λ p e. absurd (let bad : ⊥ = cc in bad); quiet = λ t. refl }

      ask : IsFor job k plan (phase_for k Ask (AskOwners plan))
      ask = record { value = refl; about = h; early = λ e. e; same = λ p e. same_Some plan p e; quiet = λ t. refl }

      tell : IsFor job k plan (phase_for k Tell (TellOwners plan))
      tell = record { value = refl; about = h; early = λ e. e; same = λ p e. same_Some plan p e; quiet = λ t. refl }

      share : IsFor job k plan (phase_for k (share_kind plan) (SharePlan plan))
      share = record { value = refl; about = h; early = λ e. e; same = λ p e. same_Some plan p e; quiet = λ t. refl }

      registered : (b : Bool) → Each (IsFor job k plan) (cond b [] (phase_for k Reg (RegisterMap (owner_map job plan)) ∷ []) ++ phase_for k Ask (AskOwners plan) ∷ phase_for k Tell (TellOwners plan) ∷ [])
      registered true = (ask, (tell, tt))
      registered false = (reg, (ask, (tell, tt)))

      asked : (b : Bool) → Each (IsFor job k plan)
          (cond b [] (cond (is_registered job made (owner_map job plan)) [] (phase_for k Reg (RegisterMap (owner_map job plan)) ∷ []) ++ phase_for k Ask (AskOwners plan) ∷ phase_for k Tell (TellOwners plan) ∷ []))
      asked true = tt
      asked false = registered (is_registered job made (owner_map job plan))

      by : (b : Bool) → Each (IsFor job k plan) (cond b [] (find_phases job made k plan ++ phase_for k (share_kind plan) (SharePlan plan) ∷ []))
      by true = tt
      by false = each-append (IsFor job k plan) (find_phases job made k plan) _ (asked (is_uniform job (owner_map job plan))) (share, tt)

-- ---- the phases of acts

module _ (job : Job) where
  -- the time of a plan, by the acts that come after it
  now-of : (k : ℕ) (plan : Plan) (made : List Plan) (xs : List Act) → (l : k < value_count job) → IsPlanTime job k plan xs → IsPlanNow job k plan l (phases_from job made xs)
  now-of k plan made xs l (inl h) = inl (h.0, (λ t. phases-any job k t made xs ∙ h.1 t), h.2)
  now-of k plan made xs l (inr h) = inr (h.0, h.1, phases-any job k h.1 made xs ∙ h.2)

  plan-phases : (low k : ℕ) (made : List Plan) (prev next : Option Phase) (plan : Plan) (xs : List Act) → low ≤ k → k < value_count job
      → IsMaking job made prev next k plan xs → AreValuePhases job k next (phases_from job (made ++ shared_plan job plan ∷ []) xs)
      → AreValuePhases job low prev (phases_from job made (MakePlan k plan ∷ xs))
  plan-phases low k made prev next plan xs b l (inl m) h =
      subst (λ c. AreValuePhases job low prev (cond c [] (find_phases job made k plan ++ phase_for k (share_kind plan) (SharePlan plan) ∷ []) ++ phases_from job (made ++ shared_plan job plan ∷ []) xs))
      (sym m.0) (phases-lower job low k prev _ b (subst (λ p. AreValuePhases job k p (phases_from job (made ++ shared_plan job plan ∷ []) xs)) m.1 h))
  plan-phases low k made prev next plan xs b l (inr m) h =
      phases-lower job low k prev (phases_from job made (MakePlan k plan ∷ xs)) b
      (phases-before job k plan l prev (plan_phases job made k plan) _ (plan-for job k plan l made (m.1, m.3)) (now-of k plan (made ++ shared_plan job plan ∷ []) xs l m.2)
      (subst (λ p. AreValuePhases job k p (phases_from job (made ++ shared_plan job plan ∷ []) xs)) m.0 h))

  phases-of-acts : (low : ℕ) (made : List Plan) (prev : Option Phase) (xs : List Act) → AreValueActs job low made prev xs → AreValuePhases job low prev (phases_from job made xs)
  phases-of-acts low made prev [] h = tt
  phases-of-acts low made prev (MakePlan k plan ∷ xs) h =
      plan-phases low k made prev h.2 plan xs h.0 h.1 h.3 (phases-of-acts k (made ++ shared_plan job plan ∷ []) h.2 xs h.4)
  phases-of-acts low made prev (Send k t ∷ xs) h = (
    h.0,
    h.1,
    h.2,
    inr (refl, t, ap (λ c. c || list_any (sends k t) (phases_from job made xs)) (and (eqb k k) (eqb t t) (eq-eqb k k refl) (eq-eqb t t refl))),
    h.3,
    phases-of-acts k made (Some (send_of job k t)) xs h.4,
  )

  pub phases-are : IsValid job → AreValuePhases job 0 None (phases job)
  phases-are valid = phases-of-acts 0 [] None (acts job) (acts-are job valid)

-- ---- a plan that is made is shared in a phase

abbrev pub shares : Job → Plan → About → Bool
shares job plan (RegisterMap m) = false
shares job plan (AskOwners p) = false
shares job plan (TellOwners p) = false
shares job plan (SharePlan p) = same_plan plan (shared_plan job p)
shares job plan (SendNumbers t) = false

module _ (job : Job) (plan : Plan) where
  abbrev shares_in : Phase → Bool
  shares_in x = shares job plan x.about

  -- a plan with these phases, if it is the plan
  here-shared : (made : List Plan) (k : ℕ) (p : Plan) → same_plan plan (shared_plan job p) ≡ true → (is_made made plan ≡ true) ⊎ (list_any shares_in (plan_phases job made k p) ≡ true)
  here-shared made k p e = by (is_made made (shared_plan job p)) refl
    where
      last : (xs : List Phase) → list_any shares_in (xs ++ phase_for k (share_kind p) (SharePlan p) ∷ []) ≡ true
      last xs = list_any-append shares_in xs (phase_for k (share_kind p) (SharePlan p) ∷ []) ∙ later (list_any shares_in xs) _ (ap (λ b. b || false) e)

      by : (b : Bool) → is_made made (shared_plan job p) ≡ b → (is_made made plan ≡ true) ⊎ (list_any shares_in (cond b [] (find_phases job made k p ++ phase_for k (share_kind p) (SharePlan p) ∷ [])) ≡ true)
      by true f = inl (ap (is_made made) (same-is plan (shared_plan job p) e) ∙ f)
      by false f = inr (last (find_phases job made k p))

  pub made-shared : (made : List Plan) (xs : List Act) → list_any (makes job plan) xs ≡ true → (is_made made plan ≡ true) ⊎ (list_any shares_in (phases_from job made xs) ≡ true)
  made-shared made [] e = absurd (let bad : ⊥ = cc in bad)
  made-shared made (Send k t ∷ xs) e = made-shared made xs e
  made-shared made (MakePlan k p ∷ xs) e = by (either (same_plan plan (shared_plan job p)) _ e) (made-shared (made ++ shared_plan job p ∷ []) xs)
    where
      rest : List Phase
      rest = phases_from job (made ++ shared_plan job p ∷ []) xs

      front : (is_made made plan ≡ true) ⊎ (list_any shares_in (plan_phases job made k p) ≡ true) → (is_made made plan ≡ true) ⊎ (list_any shares_in (plan_phases job made k p ++ rest) ≡ true)
      front (inl f) = inl f
      front (inr f) = inr (list_any-append shares_in (plan_phases job made k p) rest ∙ ap (λ b. b || list_any shares_in rest) f)

      last : (b : Bool) → b || false ≡ true → b ≡ true
      last true f = refl
      last false f = f

      more : (is_made made plan ≡ true) ⊎ (list_any (same_plan plan) (shared_plan job p ∷ []) ≡ true) → (is_made made plan ≡ true) ⊎ (list_any shares_in (plan_phases job made k p ++ rest) ≡ true)
      more (inl f) = inl f
      more (inr f) = front (here-shared made k p (last (same_plan plan (shared_plan job p)) f))

      back : (is_made (made ++ shared_plan job p ∷ []) plan ≡ true) ⊎ (list_any shares_in rest ≡ true) → (is_made made plan ≡ true) ⊎ (list_any shares_in (plan_phases job made k p ++ rest) ≡ true)
      back (inl f) = more (either (is_made made plan) _ (sym (list_any-append (same_plan plan) made (shared_plan job p ∷ [])) ∙ f))
      back (inr f) = inr (list_any-append shares_in (plan_phases job made k p) rest ∙ later (list_any shares_in (plan_phases job made k p)) _ f)

      by : (same_plan plan (shared_plan job p) ≡ true) ⊎ (list_any (makes job plan) xs ≡ true)
          → (list_any (makes job plan) xs ≡ true → (is_made (made ++ shared_plan job p ∷ []) plan ≡ true) ⊎ (list_any shares_in rest ≡ true))
          → (is_made made plan ≡ true) ⊎ (list_any shares_in (plan_phases job made k p ++ rest) ≡ true)
      by (inl f) after = front (here-shared made k p f)
      by (inr f) after = back (after f)
