-- The transfers of values, and the phases of two of them.
use Rattle.std.proofs.Common.{◌≡◌, ℕ, ℤ, zero, suc, ◌<◌, ◌≤◌, ◌+◌, ◌⊎◌, inl, inr, Bool, true, false, cond, ◌&&◌, ◌||◌, eqb, List, [], ◌∷◌, ◌++◌, length, get_or, Option, None, Some, refl, sym, ap, ◌∙◌, subst, arith}
use Rattle.std.specs.List.{list_any, flat_map}
use Rattle.std.proofs.lemmas.Bool.{eqb-true, cases_lt}
use Rattle.std.proofs.lemmas.List.Folds.{list_any-append}
use Rattle.tables.specs.Indices.{count_from}
use Rattle.model_defs.specs.declared.job.Job.{Job}
use Rattle.model_defs.specs.declared.job.Step.TheVariants as step
use Rattle.model_defs.specs.declared.phase.Plan.TheVariants.{ImportPlan, RowPlan}
use Rattle.model_defs.specs.declared.phase.Transfer.{Transfer}
use Rattle.model_defs.specs.declared.shape.Shape.{Shape}
use Rattle.model_defs.specs.Makers.{Maker, GivenVector, GivenParts, GivenMatrix, Made, makers, maker_of, value_count}
use Rattle.model_defs.specs.Phases.{MakePlan, Send, transfer_acts, plan_acts, structure_plans, value_acts, acts, phases, sends, send_phase}
use Rattle.model_defs.specs.Shapes.{is_dense, is_split_sort, shape, shape_by}
use Rattle.model_defs.specs.Stages.{stage_count}
use Rattle.model_defs.specs.Transfers.{apply_transfers, from_owners, is_local, to_owners, transfers, transfers_by}
use Rattle.model_defs.specs.Valid.{IsValid, IsValidMaker}
use Rattle.model_defs.proofs.KnownShapes.{shape-of-made}
use Rattle.model_defs.proofs.KnownStages.{known-stage}
use Rattle.model_defs.proofs.Phases.{is_send, found-any, phases-any, plans-none}
use Rattle.model_defs.proofs.Senders.{unsent-local}
use Rattle.value_phases.specs.Laws.{JobsHaveValueStages}
use Rattle.value_phases.specs.ValuePhases.{IsStructured}
use Rattle.value_phases.proofs.Matrices.{file-structure}
use Rattle.value_phases.proofs.ValueMakers.{own-structure}

-- ---- a transfer by a plan of a map to itself is not sent

module _ (job : Job) (k t : ℕ) where
  none : (a b : Bool) → a ≡ false → b ≡ false → a || b ≡ false
  none a b e f = rw (e, f) refl

  others-none : (w u : ℕ) (ts : List Transfer) → eqb w k ≡ false → list_any (is_send k t) (transfer_acts w u ts) ≡ false
  others-none w u [] e = refl
  others-none w u (x ∷ xs) e = go (is_local x.plan) (others-none w (suc u) xs e)
    where
      go : (b : Bool) → list_any (is_send k t) (transfer_acts w (suc u) xs) ≡ false → list_any (is_send k t) (cond b [] (MakePlan w x.plan ∷ Send w u ∷ []) ++ transfer_acts w (suc u) xs) ≡ false
      go true rest = rest
      go false rest = none ((eqb w k) && (eqb u t)) _ (ap (λ z. z && (eqb u t)) e) rest

  closing-none : (b : Bool) (w : ℕ) → list_any (is_send k t) (cond b (plan_acts w (structure_plans w (shape job w).sort)) []) ≡ false
  closing-none true w = plans-none k t w (structure_plans w (shape job w).sort)
  closing-none false w = refl

  value-none : list_any (is_send k t) (transfer_acts k 0 (transfers job k)) ≡ false → (w : ℕ) → list_any (is_send k t) (value_acts job w) ≡ false
  value-none h w =
      list_any-append (is_send k t) (transfer_acts w 0 (transfers job w)) _
      ∙ none (list_any (is_send k t) (transfer_acts w 0 (transfers job w))) _ (by (eqb w k) refl) (closing-none (eqb (shape job w).structure w) w)
    where
      by : (b : Bool) → eqb w k ≡ b → list_any (is_send k t) (transfer_acts w 0 (transfers job w)) ≡ false
      by true e = ap (λ v. list_any (is_send k t) (transfer_acts v 0 (transfers job v))) (eqb-true w k e) ∙ h
      by false e = others-none w 0 (transfers job w) e

  run-none : list_any (is_send k t) (transfer_acts k 0 (transfers job k)) ≡ false → (a n : ℕ) → list_any (is_send k t) (flat_map (value_acts job) (count_from a n)) ≡ false
  run-none h a zero = refl
  run-none h a (suc n) = list_any-append (is_send k t) (value_acts job a) _ ∙ none (list_any (is_send k t) (value_acts job a)) _ (value-none h a) (run-none h (a + 1) n)

  sent-not-local : (n : ℕ) (x : Transfer) → send_phase job k t ≡ Some n → transfers job k ≡ x ∷ [] → is_local x.plan ≡ false
  sent-not-local n x e only = by (is_local x.plan) refl
    where
      by : (b : Bool) → is_local x.plan ≡ b → b ≡ false
      by false f = refl
      by true f =
          absurd (
          let here : list_any (is_send k t) (transfer_acts k 0 (transfers job k)) ≡ false = ap (λ ts. list_any (is_send k t) (transfer_acts k 0 ts)) only
          ∙ ap (λ b. list_any (is_send k t) (cond b [] (MakePlan k x.plan ∷ Send k 0 ∷ []) ++ [])) f in
          let never = run-none here 0 (value_count job) in
          let sent = sym (phases-any job k t [] (acts job)) ∙ (found-any (sends k t) 0 n (phases job) e).0 in
          let bad : ⊥ = cc in bad)

-- ---- how many transfers there are

beyond : (xs : List Maker) (k : ℕ) (d : Maker) → length xs ≤ k → get_or xs k d ≡ d
beyond [] k d l = refl
beyond (x ∷ xs) zero d l = absurd (omega arith)
beyond (x ∷ xs) (suc k) d l = beyond xs k d (omega arith)

module _ (job : Job) (k : ℕ) where
  few : (m : Maker) → length (transfers_by job k m) ≤ 2
  few (GivenVector spec) = omega arith
  few (GivenParts spec) = omega arith
  few (GivenMatrix spec) = by spec.split
    where
      by : (b : Bool) → length (cond b [] (to_owners (RowPlan k) ∷ [])) ≤ 2
      by true = omega arith
      by false = omega arith
  few (Made (step.Move name source m)) = omega arith
  few (Made (step.Import name source onto mode)) = omega arith
  few (Made (step.Export name source onto mode)) = omega arith
  few (Made (step.Spread name source m)) = omega arith
  few (Made (step.Update name x y alpha beta)) = omega arith
  few (Made (step.Scale name value alpha)) = omega arith
  few (Made (step.Apply name a x y alpha beta transposed)) = by (is_split_sort (shape job a).sort) transposed
    where
      by : (b c : Bool) → length (apply_transfers a b c) ≤ 2
      by true true = omega arith
      by true false = omega arith
      by false true = omega arith
      by false false = omega arith
  few (Made (step.Transpose name a)) = omega arith
  few (Made (step.Multiply name a b)) = omega arith
  few (Made (step.Add name a b alpha beta)) = omega arith
  few (Made (step.Assemble name source onto mode)) = omega arith
  few (Made (step.Print value)) = omega arith

  -- only an apply has two
  one : (m : Maker) → ((name : List ℕ) (a x : ℕ) (y : Option ℕ) (alpha beta : ℤ) (transposed : Bool) → m ≡ Made (step.Apply name a x y alpha beta transposed) → ⊥) → length (transfers_by job k m) ≤ 1
  one (GivenVector spec) h = omega arith
  one (GivenParts spec) h = omega arith
  one (GivenMatrix spec) h = by spec.split
    where
      by : (b : Bool) → length (cond b [] (to_owners (RowPlan k) ∷ [])) ≤ 1
      by true = omega arith
      by false = omega arith
  one (Made (step.Move name source m)) h = omega arith
  one (Made (step.Import name source onto mode)) h = omega arith
  one (Made (step.Export name source onto mode)) h = omega arith
  one (Made (step.Spread name source m)) h = omega arith
  one (Made (step.Update name x y alpha beta)) h = omega arith
  one (Made (step.Scale name value alpha)) h = omega arith
  one (Made (step.Apply name a x y alpha beta transposed)) h = absurd (h name a x y alpha beta transposed refl)
  one (Made (step.Transpose name a)) h = omega arith
  one (Made (step.Multiply name a b)) h = omega arith
  one (Made (step.Add name a b alpha beta)) h = omega arith
  one (Made (step.Assemble name source onto mode)) h = omega arith
  one (Made (step.Print value)) h = omega arith

  -- a second one is by a plan of a structure
  second : (m : Maker) (t : ℕ) (d : Transfer) → suc t < length (transfers_by job k m) → is_local (get_or (transfers_by job k m) (suc t) d).plan ≡ false
  second (GivenVector spec) t d l = absurd (omega arith)
  second (GivenParts spec) t d l = absurd (omega arith)
  second (GivenMatrix spec) t d l = by spec.split l
    where
      by : (b : Bool) → suc t < length (cond b [] (to_owners (RowPlan k) ∷ [])) → is_local (get_or (cond b [] (to_owners (RowPlan k) ∷ [])) (suc t) d).plan ≡ false
      by true m = absurd (omega arith)
      by false m = absurd (omega arith)
  second (Made (step.Move name source m)) t d l = absurd (omega arith)
  second (Made (step.Import name source onto mode)) t d l = absurd (omega arith)
  second (Made (step.Export name source onto mode)) t d l = absurd (omega arith)
  second (Made (step.Spread name source m)) t d l = absurd (omega arith)
  second (Made (step.Update name x y alpha beta)) t d l = absurd (omega arith)
  second (Made (step.Scale name value alpha)) t d l = absurd (omega arith)
  second (Made (step.Apply name a x y alpha beta transposed)) t d l = by (is_split_sort (shape job a).sort) transposed t l
    where
      by : (b c : Bool) (t : ℕ) → suc t < length (apply_transfers a b c) → is_local (get_or (apply_transfers a b c) (suc t) d).plan ≡ false
      by true true zero m = refl
      by true true (suc t) m = absurd (omega arith)
      by true false zero m = refl
      by true false (suc t) m = absurd (omega arith)
      by false true t m = absurd (omega arith)
      by false false t m = absurd (omega arith)
  second (Made (step.Transpose name a)) t d l = absurd (omega arith)
  second (Made (step.Multiply name a b)) t d l = absurd (omega arith)
  second (Made (step.Add name a b alpha beta)) t d l = absurd (omega arith)
  second (Made (step.Assemble name source onto mode)) t d l = absurd (omega arith)
  second (Made (step.Print value)) t d l = absurd (omega arith)

  -- it is sent where the one before is
  all-sent : (t n : ℕ) → send_phase job k t ≡ Some n → suc t < stage_count job k → (m : ℕ) × (send_phase job k (suc t) ≡ Some m)
  all-sent t n e l = by (send_phase job k (suc t)) refl
    where
      by : (o : Option ℕ) → send_phase job k (suc t) ≡ o → (m : ℕ) × (send_phase job k (suc t) ≡ Some m)
      by (Some m) f = (m, f)
      by None f =
          absurd (
          let local = unsent-local job k (suc t) (known-stage job k t n e).0 l f in
          let not = second (maker_of job k) t (from_owners (ImportPlan 0 0)) l in
          let bad : ⊥ = cc in bad)

module _ (job : Job) (valid : IsValid job) where
  one-stage : (k : ℕ) → is_dense (shape job k).sort ≡ false → stage_count job k ≤ 1
  one-stage k d = one job k (maker_of job k) (λ name a x y alpha beta transposed e. by name a x y alpha beta transposed e (cases_lt k (value_count job)))
    where
      by : (name : List ℕ) (a x : ℕ) (y : Option ℕ) (alpha beta : ℤ) (transposed : Bool) → maker_of job k ≡ Made (step.Apply name a x y alpha beta transposed)
          → (k < value_count job) ⊎ (value_count job ≤ k) → ⊥
      by name a x y alpha beta transposed e (inl l) =
          let v = subst (IsValidMaker job k) e (valid.values k l) in
          let s = shape-of-made job valid k l ∙ ap (shape_by k (shape job)) e in
          let thick = ap (λ z. is_dense z.sort) s ∙ ap is_dense v.2.1 in
          let bad : ⊥ = cc in bad
      by name a x y alpha beta transposed e (inr l) = let f = sym (beyond (makers job) k (Made (step.Print 0)) l) ∙ e in let bad : ⊥ = cc in bad

  sent-structured : (k t n : ℕ) → send_phase job k t ≡ Some n → is_dense (shape job k).sort ≡ false → IsStructured job k
  sent-structured k t n sent d = by (maker_of job k) refl (valid.values k l) (shape-of-made job valid k l)
    where
      l : k < value_count job
      l = (known-stage job k t n sent).0

      thick : {A : Type 0} (s : Shape) → shape job k ≡ s → is_dense s.sort ≡ true → A
      thick s e f = absurd (let g = ap (λ z. is_dense z.sort) e in let bad : ⊥ = cc in bad)

      own : (shape job k).structure ≡ k → IsStructured job k
      own e = own-structure job valid k l d e

      by : (m : Maker) → maker_of job k ≡ m → IsValidMaker job k m → shape job k ≡ shape_by k (shape job) m → IsStructured job k
      by (GivenVector spec) e v s = thick _ s refl
      by (GivenParts spec) e v s = thick _ s refl
      by (GivenMatrix spec) e v s = file-structure job valid k spec l e
      by (Made (step.Move name source m)) e v s = moved (eqb (shape job source).rows m) refl
        where
          moved : (b : Bool) → eqb (shape job source).rows m ≡ b → IsStructured job k
          moved true f = absurd (let g = sent-not-local job k t n (from_owners (ImportPlan (shape job source).rows m)) sent (ap (transfers_by job k) e) in let bad : ⊥ = cc in bad)
          moved false f = own (ap (λ z. z.structure) s ∙ ap (λ b. cond b (shape job source).structure k) f)
      by (Made (step.Import name source onto mode)) e v s = thick _ s (ap is_dense v.1.1)
      by (Made (step.Export name source onto mode)) e v s = thick _ s (ap is_dense v.1.1)
      by (Made (step.Spread name source m)) e v s = thick _ s refl
      by (Made (step.Update name x y alpha beta)) e v s = thick _ s v.3
      by (Made (step.Scale name value alpha)) e v s =
          absurd (let count : stage_count job k ≡ 0 = ap (λ m. length (transfers_by job k m)) e in let m = (known-stage job k t n sent).1 in omega (arith, count, m))
      by (Made (step.Apply name a x y alpha beta transposed)) e v s = thick _ s (ap is_dense v.2.1)
      by (Made (step.Transpose name a)) e v s = own (ap (λ z. z.structure) s)
      by (Made (step.Multiply name a b)) e v s = own (ap (λ z. z.structure) s)
      by (Made (step.Add name a b alpha beta)) e v s = own (ap (λ z. z.structure) s)
      by (Made (step.Assemble name source onto mode)) e v s = own (ap (λ z. z.structure) s)
      by (Made (step.Print value)) e v s = absurd v

pub jobs-have-value-stages : JobsHaveValueStages
jobs-have-value-stages = λ job valid. record {
  few_stages = λ k. few job k (maker_of job k);
  one_stage = one-stage job valid;
  all_sent = λ k t n e l. all-sent job k t n e l;
  sent_structured = sent-structured job valid;
}
