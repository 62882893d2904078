-- What makes the values of a job.
use Rattle.std.proofs.Common.{◌≡◌, ℕ, zero, suc, ◌<◌, ◌≤◌, inl, inr, Bool, true, false, cond, eqb, List, [], ◌∷◌, length, get_or, None, Some, refl, sym, ap, ◌∙◌, subst, arith}
use Rattle.std.specs.List.{slice_index_or}
use Rattle.std.proofs.lemmas.Bool.{cases_lt, eqb-true}
use Rattle.model_defs.specs.declared.job.Job.{Job}
use Rattle.model_defs.specs.declared.job.Step.TheVariants as step
use Rattle.model_defs.specs.declared.phase.Plan.TheVariants.{ColumnPlan, ImportPlan, RowPlan}
use Rattle.model_defs.specs.declared.phase.Transfer.{Transfer}
use Rattle.model_defs.specs.declared.shape.Shape.{Shape}
use Rattle.model_defs.specs.Makers.{Maker, GivenVector, GivenParts, GivenMatrix, Made, maker_of, makers, value_count}
use Rattle.model_defs.specs.Phases.{send_phase}
use Rattle.model_defs.specs.Shapes.{is_dense, shape, shape_by}
use Rattle.model_defs.specs.Stages.{stage_count}
use Rattle.model_defs.specs.Transfers.{from_owners, is_local, to_owners, transfers, transfers_by}
use Rattle.model_defs.specs.Valid.{IsValid, IsValidMaker}
use Rattle.model_defs.proofs.KnownShapes.{shape-of-made}
use Rattle.model_defs.proofs.Senders.{unsent-local}
use Rattle.rank_stages.specs.DataLaws.{copied_by}
use Rattle.rank_stages.proofs.SendPhases.{send-phase-is}
use Rattle.value_phases.specs.ValueKinds.{IsMadeMatrix, IsOwnMatrix, IsSender, is_matrix_step, is_own_matrix}
use Rattle.value_phases.specs.Laws.{JobsHaveValueKinds}
use Rattle.value_phases.specs.ValuePhases.{HasValuePhases, IsStructured}
use Rattle.value_phases.proofs.Applies.{applies-have-operands}
use Rattle.value_phases.proofs.Copies.{copies-have-sources}
use Rattle.value_phases.proofs.MadeMatrices.{made-matrices-have-operands}
use Rattle.value_phases.proofs.Matrices.{assembled, given-split}
use Rattle.value_phases.proofs.NumberedPhases.{jobs-have-value-phases}
use Rattle.value_phases.proofs.ValueMakers.{own-or-shared, structures-are}

index-past : {A : Type 0} (xs : List A) (n : ℕ) (d : A) → length xs ≤ n → slice_index_or xs n d ≡ d
index-past [] n d l = refl
index-past (x ∷ xs) zero d l = absurd (omega arith)
index-past (x ∷ xs) (suc n) d l = index-past xs n d (omega arith)

module _ (job : Job) (valid : IsValid job) where
  -- ---- what sends numbers

  sender-by : (k t : ℕ) → k < value_count job → t < stage_count job k → IsSender job k
  sender-by k t l stage = by (maker_of job k) refl (valid.values k l)
    where
      silent : {A : Type 0} → transfers job k ≡ [] → A
      silent e = absurd (let none : stage_count job k ≡ 0 = ap (λ ts. length ts) e in omega (arith, stage, none))

      copy : (source : ℕ) (m : Maker) → maker_of job k ≡ m → copied_by m ≡ Some source → IsSender job k
      copy source m e c = inl (copies-have-sources job k source valid l (ap copied_by e ∙ c))

      made : (m : Maker) → maker_of job k ≡ m → is_matrix_step m ≡ true → IsSender job k
      made m e h = inr (inr (inr (made-matrices-have-operands job k valid l (ap is_matrix_step e ∙ h))))

      by : (m : Maker) → maker_of job k ≡ m → IsValidMaker job k m → IsSender job k
      by (GivenVector spec) e v = silent (ap (transfers_by job k) e)
      by (GivenParts spec) e v = silent (ap (transfers_by job k) e)
      by (GivenMatrix spec) e v = file spec.split refl
        where
          file : (b : Bool) → spec.split ≡ b → IsSender job k
          file true f = silent (given-split job valid k spec l e f).transfers_are
          file false f = inr (inr (inl (assembled job valid k spec l e f)))
      by (Made (step.Move name source m)) e v = copy source (Made (step.Move name source m)) e refl
      by (Made (step.Import name source onto mode)) e v = copy source (Made (step.Import name source onto mode)) e refl
      by (Made (step.Export name source onto mode)) e v = copy source (Made (step.Export name source onto mode)) e refl
      by (Made (step.Spread name source m)) e v = copy source (Made (step.Spread name source m)) e refl
      by (Made (step.Update name x y alpha beta)) e v = silent (ap (transfers_by job k) e)
      by (Made (step.Scale name value alpha)) e v = silent (ap (transfers_by job k) e)
      by (Made (step.Apply name a x y alpha beta transposed)) e v = inr (inl (applies-have-operands job k a x name y alpha beta transposed valid l e))
      by (Made (step.Transpose name a)) e v = made _ e refl
      by (Made (step.Multiply name a b)) e v = made _ e refl
      by (Made (step.Add name a b alpha beta)) e v = made _ e refl
      by (Made (step.Assemble name source onto mode)) e v = made _ e refl
      by (Made (step.Print value)) e v = absurd v

  -- ---- a new structure for which nothing is sent

  -- the numbers of a first transfer are sent, unless its plan is from a map to itself
  alone-local : (k : ℕ) (t : Transfer) → k < value_count job → transfers job k ≡ t ∷ [] → send_phase job k 0 ≡ None → is_local t.plan ≡ true
  alone-local k t l e none =
      let count : stage_count job k ≡ 1 = ap (λ ts. length ts) e in
      subst (λ ts. is_local (get_or ts 0 (from_owners (ImportPlan 0 0))).plan ≡ true) e (unsent-local job k 0 l (omega (arith, count)) none)

  alone-by : (k : ℕ) → IsStructured job k → ((t : ℕ) → send_phase job k t ≡ None) → is_own_matrix job (maker_of job k) ≡ true
  alone-by k o never = by (maker_of job k) refl (valid.values k l) (shape-of-made job valid k l)
    where
      l : k < value_count job
      l = o.below

      thick : {A : Type 0} (s : Shape) → shape job k ≡ s → is_dense s.sort ≡ true → A
      thick s e f = absurd (let d = o.sparse in let g = ap (λ z. is_dense z.sort) e in let bad : ⊥ = cc in bad)

      -- the structure is not that of a value before
      shared : {A : Type 0} (v : ℕ) → v < k → (shape job k).structure ≡ (shape job v).structure → (shape job k).sort ≡ (shape job v).sort → A
      shared v m e f =
          absurd (
          let r = structures-are job valid v (omega (arith, l, m)) (sym (ap is_dense f) ∙ o.sparse) in
          let b = r.before in
          let own = o.own in
          omega (arith, e, b, own, m))

      by : (m : Maker) → maker_of job k ≡ m → IsValidMaker job k m → shape job k ≡ shape_by k (shape job) m → is_own_matrix job m ≡ true
      by (GivenVector spec) e v s = thick _ s refl
      by (GivenParts spec) e v s = thick _ s refl
      by (GivenMatrix spec) e v s = file spec.split refl
        where
          file : (b : Bool) → spec.split ≡ b → spec.split ≡ true
          file true f = f
          file false f = absurd (let t = alone-local k (to_owners (RowPlan k)) l (assembled job valid k spec l e f).transfers_are (never 0) in let bad : ⊥ = cc in bad)
      by (Made (step.Move name source m)) e v s = moved (eqb (shape job source).rows m) refl
        where
          moved : (b : Bool) → eqb (shape job source).rows m ≡ b → false ≡ true
          moved true f = shared source v.0 (ap (λ z. z.structure) s ∙ ap (λ b. cond b (shape job source).structure k) f) (ap (λ z. z.sort) s)
          moved false f = absurd (let t = alone-local k (from_owners (ImportPlan (shape job source).rows m)) l (ap (transfers_by job k) e) (never 0) in let bad : ⊥ = cc in bad)
      by (Made (step.Import name source onto mode)) e v s = thick _ s (ap is_dense v.1.1)
      by (Made (step.Export name source onto mode)) e v s = thick _ s (ap is_dense v.1.1)
      by (Made (step.Spread name source m)) e v s = thick _ s refl
      by (Made (step.Update name x y alpha beta)) e v s = thick _ s v.3
      by (Made (step.Scale name value alpha)) e v s = shared value v (ap (λ z. z.structure) s) (ap (λ z. z.sort) s)
      by (Made (step.Apply name a x y alpha beta transposed)) e v s = thick _ s (ap is_dense v.2.1)
      by (Made (step.Transpose name a)) e v s = absurd (let far = alone-local k (to_owners (ColumnPlan a)) l (ap (transfers_by job k) e) (never 0) in let bad : ⊥ = cc in bad)
      by (Made (step.Multiply name a b)) e v s = absurd (let far = alone-local k (from_owners (ColumnPlan a)) l (ap (transfers_by job k) e) (never 0) in let bad : ⊥ = cc in bad)
      by (Made (step.Add name a b alpha beta)) e v s = alone-local k (from_owners (ImportPlan (shape job b).rows (shape job a).rows)) l (ap (transfers_by job k) e) (never 0)
      by (Made (step.Assemble name source onto mode)) e v s = absurd (let far = alone-local k (to_owners (RowPlan source)) l (ap (transfers_by job k) e) (never 0) in let bad : ⊥ = cc in bad)
      by (Made (step.Print value)) e v s = absurd v

  -- ---- its rows are made by each rank

  -- no value behind the last one is such a matrix
  own-known : (k : ℕ) → is_own_matrix job (maker_of job k) ≡ true → k < value_count job
  own-known k e = elim (cases_lt k (value_count job)) [
    | inl low ↦ low
    | inr high ↦ absurd (let none = ap (is_own_matrix job) (sym (index-past (makers job) k (Made (step.Print 0)) high)) in let bad : false ≡ true = none ∙ e in let wrong : ⊥ = cc in wrong)
  ]

  own-by : (k : ℕ) → is_own_matrix job (maker_of job k) ≡ true → IsOwnMatrix job k
  own-by k h = by (maker_of job k) refl h
    where
      l : k < value_count job
      l = own-known k h

      by : (m : Maker) → maker_of job k ≡ m → is_own_matrix job m ≡ true → IsOwnMatrix job k
      by (GivenMatrix spec) e h = inl (given-split job valid k spec l e h)
      by (Made (step.Add name a b alpha beta)) e h = sum (made-matrices-have-operands job k valid l (ap is_matrix_step e))
        where
          sum : IsMadeMatrix job k → IsOwnMatrix job k
          sum (inl is) = absurd (let clash = sym e ∙ is.is in let bad : ⊥ = cc in bad)
          sum (inr (inl is)) = absurd (let clash = sym e ∙ is.is in let bad : ⊥ = cc in bad)
          sum (inr (inr (inr is))) = absurd (let clash = sym e ∙ is.is in let bad : ⊥ = cc in bad)
          sum (inr (inr (inl is))) = inr (record { sum = is; here = eqb-true (shape job is.b).rows (shape job is.a).rows (ap (is_own_matrix job) (sym is.is ∙ e) ∙ h) })
      by m e h = absurd (let bad : ⊥ = cc in bad)

  senders : (k t n : ℕ) → send_phase job k t ≡ Some n → IsSender job k
  senders k t n e =
      let p = send-phase-is job k t n e in
      let all : HasValuePhases job = jobs-have-value-phases job valid in
      let l : k < value_count job = subst (λ v. v < value_count job) p.value (all.below n p.phase p.is) in
      sender-by k t l (subst (λ v. t < stage_count job v) p.value (all.stages n t p.phase p.is p.about))

pub jobs-have-value-kinds : JobsHaveValueKinds
jobs-have-value-kinds = λ job valid. record {
  senders = senders job valid;
  alone = alone-by job valid;
  own = own-by job valid;
  shared = own-or-shared job valid;
}
