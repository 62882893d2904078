-- The phases of a job by their numbers.
use Rattle.std.proofs.Common.{◌≡◌, ℕ, zero, suc, ◌<◌, ◌≤◌, ◌⊎◌, inl, inr, Bool, true, false, ◌||◌, eqb, List, [], ◌∷◌, Option, None, Some, refl, sym, ap, ◌∙◌, subst, arith}
use Rattle.std.specs.Prelude.{slice_get}
use Rattle.std.specs.List.{list_any}
use Rattle.std.proofs.lemmas.Bool.{cases_lt, eq-eqb, eqb-true}
use Rattle.model_defs.specs.declared.job.Job.{Job}
use Rattle.model_defs.specs.declared.phase.About.{About}
use Rattle.model_defs.specs.declared.phase.About.TheVariants.{RegisterMap, AskOwners, TellOwners, SharePlan, SendNumbers}
use Rattle.model_defs.specs.declared.phase.Phase.{Phase}
use Rattle.model_defs.specs.declared.phase.Plan.{Plan}
use Rattle.model_defs.specs.declared.phase.Plan.TheVariants.{ColumnPlan, RowPlan}
use Rattle.model_defs.specs.Makers.{value_count}
use Rattle.model_defs.specs.Shapes.{shape, is_split_sort}
use Rattle.model_defs.specs.Transfers.{shared_plan, same_plan}
use Rattle.model_defs.specs.Phases.{phases, sends, is_stage, send_phase, acts}
use Rattle.model_defs.specs.Valid.{IsValid}
use Rattle.model_defs.proofs.Filters.{and, both}
use Rattle.model_defs.proofs.Formed.{either}
use Rattle.model_defs.proofs.Names.{stage-is}
use Rattle.rank_stages.specs.OwnerLaws.{plan_about}
use Rattle.rank_stages.proofs.KnownPlans.{about-is-known}
use Rattle.rank_stages.proofs.Prepared.{same-is}
use Rattle.rank_stages.proofs.SendPhases.{send-phase-is}
use Rattle.rank_stages.proofs.SentOnce.{transfers_are_sent_once}
use Rattle.value_phases.specs.Laws.{JobsHaveValuePhases}
use Rattle.value_phases.specs.ValuePhases.{IsStructured, IsPlanOf, IsBefore, IsAfter, IsRowPhase}
use Rattle.value_phases.proofs.ValueMakers.{shapes-are-on-maps}
use Rattle.value_phases.proofs.ActLists.{is_late_plan, HasFile, IsTurn}
use Rattle.value_phases.proofs.MadePlans.{makes, column-is-made, row-is-made}
use Rattle.value_phases.proofs.ValueLists.{IsAboutOf, is_late, IsTime, AreValuePhases, phases-are, shares, made-shared}

-- ---- lists

-- a phase that passes a test has a number
number-of : (q : Phase → Bool) (xs : List Phase) → list_any q xs ≡ true → (m : ℕ) × (x : Phase) × (slice_get xs m ≡ Some x) × (q x ≡ true)
number-of q [] e = absurd (let bad : ⊥ = cc in bad)
number-of q (x ∷ xs) e = by (either (q x) (list_any q xs) e) (number-of q xs)
  where
    by : (q x ≡ true) ⊎ (list_any q xs ≡ true) → (list_any q xs ≡ true → (m : ℕ) × (y : Phase) × (slice_get xs m ≡ Some y) × (q y ≡ true))
        → (m : ℕ) × (y : Phase) × (slice_get (x ∷ xs) m ≡ Some y) × (q y ≡ true)
    by (inl h) rest = (0, x, refl, h)
    by (inr h) rest = let t = rest h in (suc t.0, t.1, t.2, t.3)

-- where none passes, none with a number does
none-at : (q : Phase → Bool) (xs : List Phase) (m : ℕ) (x : Phase) → list_any q xs ≡ false → slice_get xs m ≡ Some x → q x ≡ false
none-at q [] m x e f = absurd (let bad : ⊥ = cc in bad)
none-at q (y ∷ ys) zero x e f = let same : y ≡ x = cc in sym (ap q same) ∙ (neither (q y) _ e).0
  where
    neither : (a b : Bool) → a || b ≡ false → (a ≡ false) × (b ≡ false)
    neither true b e = absurd (let bad : ⊥ = cc in bad)
    neither false b e = (refl, e)
none-at q (y ∷ ys) (suc m) x e f = none-at q ys m x (neither (q y) _ e) f
  where
    neither : (a b : Bool) → a || b ≡ false → b ≡ false
    neither true b e = absurd (let bad : ⊥ = cc in bad)
    neither false b e = e

module _ (job : Job) where
  phase-at : (low : ℕ) (prev : Option Phase) (xs : List Phase) (n : ℕ) (x : Phase) → AreValuePhases job low prev xs → slice_get xs n ≡ Some x
      → (low ≤ x.value) × (x.value < value_count job) × IsAboutOf job x.value x.about
  phase-at low prev [] n x h e = absurd (let bad : ⊥ = cc in bad)
  phase-at low prev (y ∷ ys) zero x h e =
      let same : y ≡ x = cc in subst (λ z. (low ≤ z.value) × (z.value < value_count job) × IsAboutOf job z.value z.about) same (h.0, h.1, h.2)
  phase-at low prev (y ∷ ys) (suc n) x h e = let rest = phase-at y.value (Some y) ys n x h.5 e in (omega (arith, h.0, rest.0), rest.1, rest.2)

  order-at : (low : ℕ) (prev : Option Phase) (xs : List Phase) (n m : ℕ) (x y : Phase) → AreValuePhases job low prev xs → slice_get xs n ≡ Some x → slice_get xs m ≡ Some y → n ≤ m
      → x.value ≤ y.value
  order-at low prev [] n m x y h e f l = absurd (let bad : ⊥ = cc in bad)
  order-at low prev (z ∷ zs) zero zero x y h e f l = let same : x ≡ y = cc in (let equal : x.value ≡ y.value = ap (λ p. p.value) same in omega (arith, equal))
  order-at low prev (z ∷ zs) zero (suc m) x y h e f l = let same : z ≡ x = cc in subst (λ p. p.value ≤ y.value) same (phase-at z.value (Some z) zs m y h.5 f).0
  order-at low prev (z ∷ zs) (suc n) zero x y h e f l = absurd (omega arith)
  order-at low prev (z ∷ zs) (suc n) (suc m) x y h e f l = order-at z.value (Some z) zs n m x y h.5 e f (omega arith)

  -- no numbers of the value are sent from phase n on, or some are and the phase is not late
  abbrev IsTimeAt : List Phase → ℕ → ℕ → About → Type 0
  IsTimeAt xs n k about =
      (IsStructured job k × ((t m : ℕ) (y : Phase) → slice_get xs m ≡ Some y → n ≤ m → sends k t y ≡ false) × ((plan : Plan) → plan_about about ≡ Some plan → is_late_plan job k plan ≡ true))
      ⊎ ((is_late job k about ≡ false) × (t : ℕ) × (m : ℕ) × (n ≤ m) × (y : Phase) × (slice_get xs m ≡ Some y) × (sends k t y ≡ true))

  time-here : (xs : List Phase) (k : ℕ) (about : About) → IsTime job k about xs → IsTimeAt xs 0 k about
  time-here xs k about (inl h) = inl (h.0, (λ t m y e l. none-at (sends k t) xs m y (h.1 t) e), h.2)
  time-here xs k about (inr h) = let t = number-of (sends k h.1) xs h.2 in inr (h.0, h.1, t.0, omega arith, t.1, t.2, t.3)

  time-later : (z : Phase) (xs : List Phase) (n k : ℕ) (about : About) → IsTimeAt xs n k about → IsTimeAt (z ∷ xs) (suc n) k about
  time-later z xs n k about (inl h) = inl (h.0, (λ t m y e l. from t m y e l), h.2)
    where
      from : (t m : ℕ) (y : Phase) → slice_get (z ∷ xs) m ≡ Some y → suc n ≤ m → sends k t y ≡ false
      from t zero y e l = absurd (omega arith)
      from t (suc m) y e l = h.1 t m y e (omega arith)
  time-later z xs n k about (inr h) = inr (h.0, h.1, suc h.2, (let l = h.3 in omega (arith, l)), h.4, h.5, h.6)

  time-at : (low : ℕ) (prev : Option Phase) (xs : List Phase) (n : ℕ) (x : Phase) → AreValuePhases job low prev xs → slice_get xs n ≡ Some x → IsTimeAt xs n x.value x.about
  time-at low prev [] n x h e = absurd (let bad : ⊥ = cc in bad)
  time-at low prev (y ∷ ys) zero x h e = let same : y ≡ x = cc in subst (λ z. IsTimeAt (y ∷ ys) 0 z.value z.about) same (time-here (y ∷ ys) y.value y.about h.3)
  time-at low prev (y ∷ ys) (suc n) x h e = time-later y ys n x.value x.about (time-at y.value (Some y) ys n x h.5 e)

  -- the phase before is this one
  abbrev IsPrevious : Option Phase → List Phase → ℕ → Phase → Type 0
  IsPrevious prev xs n y = ((n ≡ 0) × (prev ≡ Some y)) ⊎ ((m : ℕ) × (n ≡ suc m) × (slice_get xs m ≡ Some y))

  previous-later : (prev : Option Phase) (z : Phase) (xs : List Phase) (n : ℕ) (y : Phase) → IsPrevious (Some z) xs n y → IsPrevious prev (z ∷ xs) (suc n) y
  previous-later prev z xs n y (inl h) = inr (0, ap suc h.0, h.1)
  previous-later prev z xs n y (inr h) = inr (suc h.0, ap suc h.1, h.2)

  turn-at : (low : ℕ) (prev : Option Phase) (xs : List Phase) (n t : ℕ) (x : Phase) → AreValuePhases job low prev xs → slice_get xs n ≡ Some x → x.about ≡ SendNumbers (suc t)
      → IsPrevious prev xs n (record x { about = SendNumbers t })
  turn-at low prev [] n t x h e f = absurd (let bad : ⊥ = cc in bad)
  turn-at low prev (y ∷ ys) zero t x h e f = let same : y ≡ x = cc in inl (refl, subst (IsTurn prev) same h.4 t f)
  turn-at low prev (y ∷ ys) (suc n) t x h e f = previous-later prev y ys n (record x { about = SendNumbers t }) (turn-at y.value (Some y) ys n t x h.5 e f)

-- ---- what a phase is about

module _ (job : Job) where
  plan-of : (k : ℕ) (about : About) (plan : Plan) → IsAboutOf job k about → plan_about about ≡ Some plan → IsPlanOf job k plan × HasFile job k plan
  plan-of k (RegisterMap m) plan h e = absurd (let bad : ⊥ = cc in bad)
  plan-of k (AskOwners p) plan h e = let same : p ≡ plan = cc in subst (λ q. IsPlanOf job k q × HasFile job k q) same h
  plan-of k (TellOwners p) plan h e = let same : p ≡ plan = cc in subst (λ q. IsPlanOf job k q × HasFile job k q) same h
  plan-of k (SharePlan p) plan h e = let same : p ≡ plan = cc in subst (λ q. IsPlanOf job k q × HasFile job k q) same h
  plan-of k (SendNumbers t) plan h e = absurd (let bad : ⊥ = cc in bad)

  late-of : (k : ℕ) (about : About) (plan : Plan) → plan_about about ≡ Some plan → is_late job k about ≡ is_late_plan job k plan
  late-of k (RegisterMap m) plan e = absurd (let bad : ⊥ = cc in bad)
  late-of k (AskOwners p) plan e = let same : p ≡ plan = cc in ap (is_late_plan job k) same
  late-of k (TellOwners p) plan e = let same : p ≡ plan = cc in ap (is_late_plan job k) same
  late-of k (SharePlan p) plan e = let same : p ≡ plan = cc in ap (is_late_plan job k) same
  late-of k (SendNumbers t) plan e = absurd (let bad : ⊥ = cc in bad)

  -- a plan of columns is that of the phase's own value
  column-value : (v k : ℕ) → IsPlanOf job v (ColumnPlan k) → v ≡ k
  column-value v k (inl h) = elim h.is [
    | inl e ↦ absurd (let bad : ⊥ = cc in bad)
    | inr e ↦ absurd (let bad : ⊥ = cc in bad)
  ]
  column-value v k (inr h) = elim h.is [
    | inl e ↦ (let same : k ≡ v = cc in sym same)
    | inr e ↦ absurd (let bad : ⊥ = cc in bad)
  ]

  row-value : (v k : ℕ) → IsPlanOf job v (RowPlan k) → v ≡ k
  row-value v k (inl h) = elim h.is [
    | inl e ↦ absurd (let bad : ⊥ = cc in bad)
    | inr e ↦ absurd (let bad : ⊥ = cc in bad)
  ]
  row-value v k (inr h) = elim h.is [
    | inl e ↦ absurd (let bad : ⊥ = cc in bad)
    | inr e ↦ (let same : k ≡ v = cc in sym same)
  ]

  share-is : (plan : Plan) (about : About) → shares job plan about ≡ true → (p : Plan) × (about ≡ SharePlan p) × (plan ≡ shared_plan job p)
  share-is plan (RegisterMap m) e = absurd (let bad : ⊥ = cc in bad)
  share-is plan (AskOwners p) e = absurd (let bad : ⊥ = cc in bad)
  share-is plan (TellOwners p) e = absurd (let bad : ⊥ = cc in bad)
  share-is plan (SharePlan p) e = (p, refl, same-is plan (shared_plan job p) e)
  share-is plan (SendNumbers t) e = absurd (let bad : ⊥ = cc in bad)

  -- a plan of value v that is shared with the columns of value k, or with its rows, is that plan
  own-column : (v k : ℕ) (p : Plan) → IsPlanOf job v p → ColumnPlan k ≡ shared_plan job p → (v ≡ k) × (p ≡ ColumnPlan k)
  own-column v k p (inl h) e = elim h.is [
    | inl f ↦ absurd (let g = e ∙ ap (shared_plan job) f in let bad : ⊥ = cc in bad)
    | inr f ↦ absurd (let g = e ∙ ap (shared_plan job) f in let bad : ⊥ = cc in bad)
  ]
  own-column v k p (inr h) e = elim h.is [
    | inl f ↦ (let g = e ∙ ap (shared_plan job) f in let same : k ≡ (shape job v).structure = cc in let one : v ≡ k = sym (same ∙ h.structured.own) in (one, f ∙ ap ColumnPlan one))
    | inr f ↦ absurd (let g = e ∙ ap (shared_plan job) f in let bad : ⊥ = cc in bad)
  ]

  own-row : (v k : ℕ) (p : Plan) → IsPlanOf job v p → RowPlan k ≡ shared_plan job p → (v ≡ k) × (p ≡ RowPlan k)
  own-row v k p (inl h) e = elim h.is [
    | inl f ↦ absurd (let g = e ∙ ap (shared_plan job) f in let bad : ⊥ = cc in bad)
    | inr f ↦ absurd (let g = e ∙ ap (shared_plan job) f in let bad : ⊥ = cc in bad)
  ]
  own-row v k p (inr h) e = elim h.is [
    | inl f ↦ absurd (let g = e ∙ ap (shared_plan job) f in let bad : ⊥ = cc in bad)
    | inr f ↦ (let g = e ∙ ap (shared_plan job) f in let same : k ≡ (shape job v).structure = cc in let one : v ≡ k = sym (same ∙ h.structured.own) in (one, f ∙ ap RowPlan one))
  ]

-- ---- the phases of a job

module _ (job : Job) (valid : IsValid job) where
  all-phases : AreValuePhases job 0 None (phases job)
  all-phases = phases-are job valid

  own-about : (n : ℕ) (x : Phase) → slice_get (phases job) n ≡ Some x → (x.value < value_count job) × IsAboutOf job x.value x.about
  own-about n x e = let p = phase-at job 0 None (phases job) n x all-phases e in (p.1, p.2)

  own-plan : (n : ℕ) (x : Phase) (plan : Plan) → slice_get (phases job) n ≡ Some x → plan_about x.about ≡ Some plan → IsPlanOf job x.value plan
  own-plan n x plan e f = (plan-of job x.value x.about plan (own-about n x e).1 f).0

  in-order : (n m : ℕ) (a b : Phase) → slice_get (phases job) n ≡ Some a → slice_get (phases job) m ≡ Some b → n ≤ m → a.value ≤ b.value
  in-order n m a b e f l = order-at job 0 None (phases job) n m a b all-phases e f l

  left : (n v t m : ℕ) (x : Phase) → slice_get (phases job) n ≡ Some x → v < x.value → send_phase job v t ≡ Some m → m < n
  left n v t m x e l s = elim (cases_lt m n) [
    | inl before ↦ before
    | inr after ↦ absurd (let p = send-phase-is job v t m s in let o = in-order n m x p.phase e p.is after in let same = p.value in omega (arith, o, same, l))
  ]

  after-of : (n k : ℕ) → IsStructured job k → ((t m : ℕ) (y : Phase) → slice_get (phases job) m ≡ Some y → n ≤ m → sends k t y ≡ false) → IsAfter job n k
  after-of n k o h = record { structured = o; sent = sent }
    where
      sent : (t m : ℕ) → send_phase job k t ≡ Some m → m < n
      sent t m s = elim (cases_lt m n) [
        | inl before ↦ before
        | inr after ↦ absurd (
            let p = send-phase-is job k t m s in
            let never = h t m p.phase p.is after in
            let yes : sends k t p.phase ≡ true = and (eqb p.phase.value k) (is_stage t p.phase.about) (eq-eqb p.phase.value k p.value) (ap (is_stage t) p.about ∙ eq-eqb t t refl) in
            let bad : ⊥ = cc in bad)
      ]

  when : (n : ℕ) (x : Phase) → slice_get (phases job) n ≡ Some x → IsBefore job n x.value ⊎ IsAfter job n x.value
  when n x e = by (time-at job 0 None (phases job) n x all-phases e)
    where
      by : IsTimeAt job (phases job) n x.value x.about → IsBefore job n x.value ⊎ IsAfter job n x.value
      by (inl h) = inr (after-of n x.value h.0 h.1)
      by (inr h) =
          let parts = both (eqb h.4.value x.value) _ h.6 in
          inl (record {
            stage = h.1;
            phase = h.2;
            sends = subst (λ v. send_phase job v h.1 ≡ Some h.2) (eqb-true h.4.value x.value parts.0) (transfers_are_sent_once job h.2 h.1 h.4 h.5 (stage-is h.1 h.4.about parts.1));
            later = h.3;
          })

  late : (n : ℕ) (x : Phase) → slice_get (phases job) n ≡ Some x → is_late job x.value x.about ≡ true → IsAfter job n x.value
  late n x e f = by (time-at job 0 None (phases job) n x all-phases e)
    where
      by : IsTimeAt job (phases job) n x.value x.about → IsAfter job n x.value
      by (inl h) = after-of n x.value h.0 h.1
      by (inr h) = absurd (let early = h.0 in let bad : ⊥ = cc in bad)

  columns-after : (n k : ℕ) (x : Phase) → slice_get (phases job) n ≡ Some x → plan_about x.about ≡ Some (ColumnPlan k) → IsAfter job n k
  columns-after n k x e f = subst (IsAfter job n) (column-value job x.value k (own-plan n x (ColumnPlan k) e f)) (late n x e (late-of job x.value x.about (ColumnPlan k) f))

  early : (n : ℕ) (x : Phase) (plan : Plan) → slice_get (phases job) n ≡ Some x → plan_about x.about ≡ Some plan → is_late_plan job x.value plan ≡ false → IsBefore job n x.value
  early n x plan e f not = by (time-at job 0 None (phases job) n x all-phases e)
    where
      by : IsTimeAt job (phases job) n x.value x.about → IsBefore job n x.value
      by (inl h) = absurd (let yes = h.2 plan f in let bad : ⊥ = cc in bad)
      by (inr h) =
          let parts = both (eqb h.4.value x.value) _ h.6 in
          record {
            stage = h.1;
            phase = h.2;
            sends = subst (λ v. send_phase job v h.1 ≡ Some h.2) (eqb-true h.4.value x.value parts.0) (transfers_are_sent_once job h.2 h.1 h.4 h.5 (stage-is h.1 h.4.about parts.1));
            later = h.3;
          }

  row-phases : (n k : ℕ) (x : Phase) → slice_get (phases job) n ≡ Some x → plan_about x.about ≡ Some (RowPlan k) → IsRowPhase job n k
  row-phases n k x e f =
      let plan = plan-of job x.value x.about (RowPlan k) (own-about n x e).1 f in
      subst (IsRowPhase job n) (row-value job x.value k plan.0) (record {
        spec = plan.1.0;
        is = plan.1.1;
        before = λ s. early n x (RowPlan k) e f (sym plan.1.2 ∙ s);
        after = λ s. late n x e (late-of job x.value x.about (RowPlan k) f ∙ sym plan.1.2 ∙ s);
      })

  in-turn : (n t : ℕ) (x : Phase) → slice_get (phases job) n ≡ Some x → x.about ≡ SendNumbers (suc t) → (m : ℕ) × (n ≡ suc m) × (slice_get (phases job) m ≡ Some (record x { about = SendNumbers t }))
  in-turn n t x e f = by (turn-at job 0 None (phases job) n t x all-phases e f)
    where
      by : IsPrevious job None (phases job) n (record x { about = SendNumbers t }) → (m : ℕ) × (n ≡ suc m) × (slice_get (phases job) m ≡ Some (record x { about = SendNumbers t }))
      by (inl h) = absurd (let e = h.1 in let bad : ⊥ = cc in bad)
      by (inr h) = h

  -- a plan that is made is shared in some phase
  shared : (plan : Plan) → list_any (makes job plan) (acts job) ≡ true → (n : ℕ) × (x : Phase) × (slice_get (phases job) n ≡ Some x) × (p : Plan) × (x.about ≡ SharePlan p) × (plan ≡ shared_plan job p)
  shared plan e = by (made-shared job plan [] (acts job) e)
    where
      by : (list_any (same_plan plan) [] ≡ true) ⊎ (list_any (λ x. shares job plan x.about) (phases job) ≡ true)
          → (n : ℕ) × (x : Phase) × (slice_get (phases job) n ≡ Some x) × (p : Plan) × (x.about ≡ SharePlan p) × (plan ≡ shared_plan job p)
      by (inl h) = absurd (let bad : ⊥ = cc in bad)
      by (inr h) = let t = number-of (λ x. shares job plan x.about) (phases job) h in let s = share-is job plan t.1.about t.3 in (t.0, t.1, t.2, s.0, s.1, s.2)

  column-plans : (k : ℕ) → IsStructured job k
      → (n : ℕ) × (x : Phase) × (slice_get (phases job) n ≡ Some x) × (x.value ≡ k) × (x.about ≡ SharePlan (ColumnPlan k)) × IsAfter job n k
  column-plans k o =
      let s = shared (ColumnPlan k) (column-is-made job k o) in
      let own = own-column job s.1.value k s.3 (own-plan s.0 s.1 s.3 s.2 (ap plan_about s.4)) s.5 in
      let about = s.4 ∙ ap SharePlan own.1 in
      (s.0, s.1, s.2, own.0, about, columns-after s.0 k s.1 s.2 (ap plan_about about))

  row-plans : (k : ℕ) → IsStructured job k → is_split_sort (shape job k).sort ≡ true
      → (n : ℕ) × (x : Phase) × (slice_get (phases job) n ≡ Some x) × (x.value ≡ k) × (x.about ≡ SharePlan (RowPlan k)) × IsAfter job n k
  row-plans k o split =
      let s = shared (RowPlan k) (row-is-made job k o split) in
      let own = own-row job s.1.value k s.3 (own-plan s.0 s.1 s.3 s.2 (ap plan_about s.4)) s.5 in
      let about = s.4 ∙ ap SharePlan own.1 in (
        s.0,
        s.1,
        s.2,
        own.0,
        about,
        subst (IsAfter job s.0) own.0 (late s.0 s.1 s.2 (ap (is_late job s.1.value) about ∙ ap (λ v. is_split_sort (shape job v).sort) own.0 ∙ split)),
      )

pub jobs-have-value-phases : JobsHaveValuePhases
jobs-have-value-phases = λ job valid. record {
  shapes = shapes-are-on-maps job valid;
  maps = λ n m e. (about-is-known job valid n (RegisterMap m) e).0;
  plans = λ n x plan e f. own-plan job valid n x plan e f;
  below = λ n x e. (own-about job valid n x e).0;
  when = when job valid;
  columns_after = columns-after job valid;
  row_phases = row-phases job valid;
  left = left job valid;
  in_order = in-order job valid;
  stages = λ n t x e f. subst (IsAboutOf job x.value) f (own-about job valid n x e).1;
  in_turn = in-turn job valid;
  column_plans = column-plans job valid;
  row_plans = row-plans job valid;
}
