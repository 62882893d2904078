-- What the ranks do together for the values of a job, one value after the other. For each they make the plans of its transfers and
-- send its numbers, and then, if it has a structure of its own, they make the plans of that.
use Rattle.std.proofs.Common.{◌≡◌, ℕ, zero, suc, ◌<◌, ◌≤◌, ◌+◌, inl, inr, Bool, true, false, cond, ◌||◌, eqb, List, [], ◌∷◌, ◌++◌, length, Option, None, Some, refl, sym, ap, ◌∙◌, subst, arith, append_assoc}
use Rattle.std.specs.List.{list_any, flat_map}
use Rattle.std.proofs.lemmas.Bool.{eq-eqb, eqb-true}
use Rattle.tables.specs.Indices.{count_from}
use Rattle.model_defs.specs.declared.job.Job.{Job}
use Rattle.model_defs.specs.declared.job.Step.TheVariants as step
use Rattle.model_defs.specs.declared.phase.Phase.{Phase}
use Rattle.model_defs.specs.declared.phase.Plan.{Plan}
use Rattle.model_defs.specs.declared.phase.Plan.TheVariants.{ImportPlan, ExportPlan, ColumnPlan, RowPlan}
use Rattle.model_defs.specs.declared.phase.Transfer.{Transfer}
use Rattle.model_defs.specs.declared.shape.Sort.{Sort}
use Rattle.model_defs.specs.declared.shape.Sort.TheVariants.{Vector, Parts, Matrix, Split}
use Rattle.model_defs.specs.Makers.{Maker, GivenVector, GivenParts, GivenMatrix, Made, maker_of, value_count}
use Rattle.model_defs.specs.Shapes.{is_dense, is_split_sort, shape, shape_by}
use Rattle.model_defs.specs.Transfers.{apply_transfers, from_owners, is_local, shared_plan, to_owners, transfers, transfers_by}
use Rattle.model_defs.specs.Phases.{Act, MakePlan, Send, transfer_acts, plan_acts, structure_plans, value_acts, acts}
use Rattle.model_defs.specs.Stages.{stage_count}
use Rattle.model_defs.specs.Valid.{IsValid, IsValidMaker}
use Rattle.model_defs.proofs.Filters.{and}
use Rattle.model_defs.proofs.KnownShapes.{shape-of-made, not-dense}
use Rattle.model_defs.proofs.Phases.{is_send}
use Rattle.value_phases.specs.ValuePhases.{IsMapPlan, IsStructured, IsStructurePlan, IsPlanOf}
use Rattle.value_phases.proofs.ValueMakers.{shapes-are-on-maps, structures-are, own-structure, split-file}
use Rattle.value_phases.proofs.ActLists.{is_made, is_late_plan, HasFile, send_of, IsTurn, AreValueActs, acts-lower, sends-later, IsReady, has-more, has-last, ready-more, ready-next}

module _ (job : Job) (valid : IsValid job) (k : ℕ) (l : k < value_count job) where
  -- acts that may follow whatever was made and done, once the plans of these structures were made
  abbrev MayFollow : (n low : ℕ) → List Act → Type 0
  MayFollow n low rest = (made : List Plan) (prev : Option Phase) → IsReady job n made → AreValueActs job low made prev rest

  -- what is late
  late-acts : (made : List Plan) (prev : Option Phase) (rest : List Act) (plan : Plan) → IsStructurePlan job k plan → is_late_plan job k plan ≡ true → HasFile job k plan → ((t : ℕ) → list_any (is_send k t) rest ≡ false)
      → AreValueActs job k (made ++ shared_plan job plan ∷ []) None rest → AreValueActs job k made prev (MakePlan k plan ∷ rest)
  late-acts made prev rest plan h late file none more = (omega arith, l, None, inr (refl, inr h, inl (h.structured, none, late), file), more)

  structure-acts : (made : List Plan) (prev : Option Phase) (rest : List Act) → MayFollow (k + 1) (k + 1) rest → IsReady job k made
      → AreValueActs job k made prev (cond (eqb (shape job k).structure k) (plan_acts k (structure_plans k (shape job k).sort)) [] ++ rest)
  structure-acts made prev rest h ready = by (eqb (shape job k).structure k) refl
    where
      lower : (more : List Plan) (p : Option Phase) → IsReady job (k + 1) more → AreValueActs job k more p rest
      lower more p r = acts-lower job k (k + 1) more p rest (omega arith) (h more p r)

      none : (more : List Plan) → IsReady job (k + 1) more → (t : ℕ) → list_any (is_send k t) rest ≡ false
      none more r t = sends-later job (k + 1) more None rest k t (omega arith) (h more None r)

      unstructured : (IsStructured job k → ⊥) → AreValueActs job k made prev rest
      unstructured never = lower made prev (ready-next job k made ready (λ o. absurd (never o)) (λ o e. absurd (never o)))

      dense : (sort : Sort) → (shape job k).sort ≡ sort → is_dense sort ≡ true → IsStructured job k → ⊥
      dense sort e d o = let t = o.sparse in let u = ap is_dense e in let bad : ⊥ = cc in bad

      sorted : (sort : Sort) → (shape job k).sort ≡ sort → (shape job k).structure ≡ k → AreValueActs job k made prev (plan_acts k (structure_plans k sort) ++ rest)
      sorted Vector e own = unstructured (dense Vector e refl)
      sorted Parts e own = unstructured (dense Parts e refl)
      sorted Matrix e own = late-acts made prev rest (ColumnPlan k) (record { structured = own-structure job valid k l (ap is_dense e) own; is = inl refl }) refl tt (none more ready2) (lower more None ready2)
        where
          more : List Plan
          more = made ++ shared_plan job (ColumnPlan k) ∷ []

          ready2 : IsReady job (k + 1) more
          ready2 =
              ready-next job k more (ready-more job k made (shared_plan job (ColumnPlan k)) ready)
              (λ o. has-last made (shared_plan job (ColumnPlan k)) (ColumnPlan k) (ap ColumnPlan (sym own)))
              (λ o f. absurd (let u = ap is_split_sort e in let bad : ⊥ = cc in bad))
      sorted Split e own =
          late-acts made prev (MakePlan k (RowPlan k) ∷ rest) (ColumnPlan k) (record { structured = o; is = inl refl }) refl tt (none most ready2)
          (late-acts more None rest (RowPlan k) (record { structured = o; is = inr refl }) (ap is_split_sort e) file (none most ready2) (lower most None ready2))
        where
          o : IsStructured job k
          o = own-structure job valid k l (ap is_dense e) own

          file : HasFile job k (RowPlan k)
          file = let s = split-file job valid k l e own in (s.0, s.1, s.2 ∙ sym (ap is_split_sort e))

          more : List Plan
          more = made ++ shared_plan job (ColumnPlan k) ∷ []

          most : List Plan
          most = more ++ shared_plan job (RowPlan k) ∷ []

          ready2 : IsReady job (k + 1) most
          ready2 =
              ready-next job k most (ready-more job k more (shared_plan job (RowPlan k)) (ready-more job k made (shared_plan job (ColumnPlan k)) ready))
              (λ o. has-more more (shared_plan job (RowPlan k)) (ColumnPlan k) (has-last made (shared_plan job (ColumnPlan k)) (ColumnPlan k) (ap ColumnPlan (sym own))))
              (λ o f. has-last more (shared_plan job (RowPlan k)) (RowPlan k) (ap RowPlan (sym own)))

      by : (b : Bool) → eqb (shape job k).structure k ≡ b → AreValueActs job k made prev (cond b (plan_acts k (structure_plans k (shape job k).sort)) [] ++ rest)
      by true e = sorted (shape job k).sort refl (eqb-true (shape job k).structure k e)
      by false e = unstructured (λ o. let t = eq-eqb (shape job k).structure k o.own in let bad : ⊥ = cc in bad)

  first-turn : (prev : Option Phase) → IsTurn prev (send_of job k 0)
  first-turn prev t e = absurd (let bad : ⊥ = cc in bad)

  -- one transfer, by a plan that is not late
  one-acts : (made : List Plan) (prev : Option Phase) (rest : List Act) → MayFollow k k rest → IsReady job k made → 0 < stage_count job k
      → (t : Transfer) → IsPlanOf job k t.plan → is_late_plan job k t.plan ≡ false → HasFile job k t.plan → AreValueActs job k made prev (transfer_acts k 0 (t ∷ []) ++ rest)
  one-acts made prev rest h ready stage t plan early file = go (is_local t.plan)
    where
      sent : list_any (is_send k 0) (Send k 0 ∷ rest) ≡ true
      sent = ap (λ c. c || list_any (is_send k 0) rest) (and (eqb k k) (eqb 0 0) (eq-eqb k k refl) refl)

      go : (c : Bool) → AreValueActs job k made prev ((cond c [] (MakePlan k t.plan ∷ Send k 0 ∷ []) ++ []) ++ rest)
      go true = h made prev ready
      go false = (
        omega arith,
        l,
        None,
        inr (refl, plan, inr (early, 0, sent), file),
        (omega arith, l, stage, first-turn None, h (made ++ shared_plan job t.plan ∷ []) (Some (send_of job k 0)) (ready-more job k made (shared_plan job t.plan) ready)),
      )

  -- a transfer by a plan that was made before
  shared-acts : (made : List Plan) (prev : Option Phase) (rest : List Act) (plan : Plan) (u : ℕ) → is_made made (shared_plan job plan) ≡ true → u < stage_count job k → IsTurn prev (send_of job k u)
      → AreValueActs job k (made ++ shared_plan job plan ∷ []) (Some (send_of job k u)) rest → AreValueActs job k made prev (MakePlan k plan ∷ Send k u ∷ rest)
  shared-acts made prev rest plan u has stage turn more = (omega arith, l, prev, inl (has, refl), (omega arith, l, stage, turn, more))

  -- the plans of a matrix before value k
  column-made : (made : List Plan) (a : ℕ) → IsReady job k made → a < k → is_dense (shape job a).sort ≡ false → is_made made (shared_plan job (ColumnPlan a)) ≡ true
  column-made made a ready m d = let s = structures-are job valid a (omega (arith, l, m)) d in ready.columns (shape job a).structure (let b = s.before in omega (arith, m, b)) s.own

  row-made : (made : List Plan) (a : ℕ) → IsReady job k made → a < k → (shape job a).sort ≡ Split → is_made made (shared_plan job (RowPlan a)) ≡ true
  row-made made a ready m e =
      let s = structures-are job valid a (omega (arith, l, m)) (ap is_dense e) in
      ready.rows (shape job a).structure (let b = s.before in omega (arith, m, b)) s.own (ap is_split_sort (s.sort ∙ e))

  known : (v : ℕ) → v < k → (shape job v).rows < length job.maps
  known v m = (shapes-are-on-maps job valid v (omega (arith, l, m))).known

  map-plan : (source target : ℕ) → source < length job.maps → target < length job.maps → IsMapPlan job (ImportPlan source target) × IsMapPlan job (ExportPlan source target)
  map-plan source target a b = (
    record { source = source; target = target; is = inl refl; known_source = a; known_target = b },
    record { source = source; target = target; is = inr refl; known_source = a; known_target = b },
  )

  transfers-acts : (made : List Plan) (prev : Option Phase) (rest : List Act) → MayFollow k k rest → IsReady job k made → AreValueActs job k made prev (transfer_acts k 0 (transfers job k) ++ rest)
  transfers-acts made prev rest h ready = by (maker_of job k) refl (valid.values k l) (shape-of-made job valid k l)
    where
      nothing : AreValueActs job k made prev rest
      nothing = h made prev ready

      staged : (m : Maker) → maker_of job k ≡ m → (n : ℕ) → n < length (transfers_by job k m) → n < stage_count job k
      staged m e n b = subst (λ x. n < length (transfers_by job k x)) (sym e) b

      -- one by a plan that was made before
      column : (a : ℕ) → a < k → is_dense (shape job a).sort ≡ false → 0 < stage_count job k → AreValueActs job k made prev (MakePlan k (ColumnPlan a) ∷ Send k 0 ∷ rest)
      column a before d b =
          shared-acts made prev rest (ColumnPlan a) 0 (column-made made a ready before d) b (first-turn prev)
          (h (made ++ shared_plan job (ColumnPlan a) ∷ []) (Some (send_of job k 0)) (ready-more job k made (shared_plan job (ColumnPlan a)) ready))

      row : (a : ℕ) → a < k → (shape job a).sort ≡ Split → 0 < stage_count job k → AreValueActs job k made prev (MakePlan k (RowPlan a) ∷ Send k 0 ∷ rest)
      row a before d b =
          shared-acts made prev rest (RowPlan a) 0 (row-made made a ready before d) b (first-turn prev)
          (h (made ++ shared_plan job (RowPlan a) ∷ []) (Some (send_of job k 0)) (ready-more job k made (shared_plan job (RowPlan a)) ready))

      -- two by plans that were made before
      second-turn : IsTurn (Some (send_of job k 0)) (send_of job k 1)
      second-turn t e = let same : 0 ≡ t = cc in ap (λ s. Some (send_of job k s)) same

      two : (p q : Plan) → is_made made (shared_plan job p) ≡ true → is_made made (shared_plan job q) ≡ true → 1 < stage_count job k
          → AreValueActs job k made prev (MakePlan k p ∷ Send k 0 ∷ MakePlan k q ∷ Send k 1 ∷ rest)
      two p q a b c =
          shared-acts made prev (MakePlan k q ∷ Send k 1 ∷ rest) p 0 a (omega (arith, c)) (first-turn prev)
          (shared-acts (made ++ shared_plan job p ∷ []) (Some (send_of job k 0)) rest q 1 (has-more made (shared_plan job p) (shared_plan job q) b) c second-turn
          (h ((made ++ shared_plan job p ∷ []) ++ shared_plan job q ∷ []) (Some (send_of job k 1))
          (ready-more job k (made ++ shared_plan job p ∷ []) (shared_plan job q) (ready-more job k made (shared_plan job p) ready))))

      by : (m : Maker) → maker_of job k ≡ m → IsValidMaker job k m → shape job k ≡ shape_by k (shape job) m → AreValueActs job k made prev (transfer_acts k 0 (transfers_by job k m) ++ rest)
      by (GivenVector spec) e v s = nothing
      by (GivenParts spec) e v s = nothing
      by (GivenMatrix spec) e v s = file spec.split refl
        where
          file : (b : Bool) → spec.split ≡ b → AreValueActs job k made prev (transfer_acts k 0 (cond b [] (to_owners (RowPlan k) ∷ [])) ++ rest)
          file true f = nothing
          file false f =
              let whole : (shape job k).sort ≡ Matrix = ap (λ z. z.sort) s ∙ ap (λ b. cond b Split Matrix) f in
              one-acts made prev rest h ready
              (staged (GivenMatrix spec) e 0 (subst (λ b. 0 < length (cond b [] (to_owners (RowPlan k) ∷ []))) (sym f) (omega arith)))
              (to_owners (RowPlan k))
              (inr (record { structured = own-structure job valid k l (ap is_dense whole) (ap (λ z. z.structure) s); is = inr refl }))
              (ap is_split_sort whole) (spec, e, f ∙ sym (ap is_split_sort whole))
      by (Made (step.Move name source m)) e v s =
          one-acts made prev rest h ready (staged (Made (step.Move name source m)) e 0 (omega arith)) (from_owners (ImportPlan (shape job source).rows m))
          (inl (map-plan (shape job source).rows m (known source v.0) v.3.0).0) refl tt
      by (Made (step.Import name source onto mode)) e v s =
          one-acts made prev rest h ready (staged (Made (step.Import name source onto mode)) e 0 (omega arith)) (from_owners (ImportPlan (shape job source).rows (shape job onto).rows))
          (inl (map-plan (shape job source).rows (shape job onto).rows (known source v.0.0) (known onto v.1.0)).0) refl tt
      by (Made (step.Export name source onto mode)) e v s =
          one-acts made prev rest h ready (staged (Made (step.Export name source onto mode)) e 0 (omega arith)) (to_owners (ExportPlan (shape job source).rows (shape job onto).rows))
          (inl (map-plan (shape job source).rows (shape job onto).rows (known source v.0.0) (known onto v.1.0)).1) refl tt
      by (Made (step.Spread name source m)) e v s =
          one-acts made prev rest h ready (staged (Made (step.Spread name source m)) e 0 (omega arith)) (from_owners (ImportPlan (shape job source).rows m))
          (inl (map-plan (shape job source).rows m (known source v.0.0) v.1).0) refl tt
      by (Made (step.Update name x y alpha beta)) e v s = nothing
      by (Made (step.Scale name value alpha)) e v s = nothing
      by (Made (step.Apply name a x y alpha beta transposed)) e v s = apply (shape job a).sort refl transposed refl
        where
          m : Maker
          m = Made (step.Apply name a x y alpha beta transposed)

          count : (split turned : Bool) → is_split_sort (shape job a).sort ≡ split → transposed ≡ turned → length (apply_transfers a split turned) ≡ stage_count job k
          count split turned f g = (λ t. length (apply_transfers a (sym f t) (sym g t))) ∙ ap (λ z. length (transfers_by job k z)) (sym e)

          one : (turned : Bool) → is_split_sort (shape job a).sort ≡ false → transposed ≡ turned → AreValueActs job k made prev (transfer_acts k 0 (apply_transfers a false turned) ++ rest)
          one false f g = column a v.0 (not-dense (shape job a).sort v.1) (let c = count false false f g in omega (arith, c))
          one true f g = column a v.0 (not-dense (shape job a).sort v.1) (let c = count false true f g in omega (arith, c))

          both-ways : (turned : Bool) → (shape job a).sort ≡ Split → transposed ≡ turned → AreValueActs job k made prev (transfer_acts k 0 (apply_transfers a true turned) ++ rest)
          both-ways false f g =
              two (ColumnPlan a) (RowPlan a) (column-made made a ready v.0 (ap is_dense f)) (row-made made a ready v.0 f) (let c = count true false (ap is_split_sort f) g in omega (arith, c))
          both-ways true f g =
              two (RowPlan a) (ColumnPlan a) (row-made made a ready v.0 f) (column-made made a ready v.0 (ap is_dense f)) (let c = count true true (ap is_split_sort f) g in omega (arith, c))

          apply : (sort : Sort) → (shape job a).sort ≡ sort → (turned : Bool) → transposed ≡ turned → AreValueActs job k made prev (transfer_acts k 0 (apply_transfers a (is_split_sort sort) turned) ++ rest)
          apply Vector f turned g = one turned (ap is_split_sort f) g
          apply Parts f turned g = one turned (ap is_split_sort f) g
          apply Matrix f turned g = one turned (ap is_split_sort f) g
          apply Split f turned g = both-ways turned f g
      by (Made (step.Transpose name a)) e v s = column a v.0 (ap is_dense v.1) (staged (Made (step.Transpose name a)) e 0 (omega arith))
      by (Made (step.Multiply name a b)) e v s = column a v.0.0 (ap is_dense v.0.1) (staged (Made (step.Multiply name a b)) e 0 (omega arith))
      by (Made (step.Add name a b alpha beta)) e v s =
          one-acts made prev rest h ready (staged (Made (step.Add name a b alpha beta)) e 0 (omega arith)) (from_owners (ImportPlan (shape job b).rows (shape job a).rows))
          (inl (map-plan (shape job b).rows (shape job a).rows (known b v.1.0) (known a v.0.0)).0) refl tt
      by (Made (step.Assemble name source onto mode)) e v s = row source v.0.0 v.0.1 (staged (Made (step.Assemble name source onto mode)) e 0 (omega arith))
      by (Made (step.Print value)) e v s = absurd v

  pub each-value-acts : (made : List Plan) (prev : Option Phase) (rest : List Act) → MayFollow (k + 1) (k + 1) rest → IsReady job k made → AreValueActs job k made prev (value_acts job k ++ rest)
  each-value-acts made prev rest h ready =
      subst (AreValueActs job k made prev) (sym (append_assoc (transfer_acts k 0 (transfers job k)) closing rest))
      (transfers-acts made prev (closing ++ rest) (λ more p r. structure-acts more p rest h r) ready)
    where
      closing : List Act
      closing = cond (eqb (shape job k).structure k) (plan_acts k (structure_plans k (shape job k).sort)) []

module _ (job : Job) (valid : IsValid job) where
  run-acts : (a n : ℕ) → a + n ≤ value_count job → (made : List Plan) (prev : Option Phase) → IsReady job a made → AreValueActs job a made prev (flat_map (value_acts job) (count_from a n))
  run-acts a zero l made prev ready = tt
  run-acts a (suc n) l made prev ready =
      each-value-acts job valid a (omega (arith, l)) made prev (flat_map (value_acts job) (count_from (a + 1) n)) (λ more p r. run-acts (a + 1) n (omega (arith, l)) more p r) ready

  pub acts-are : AreValueActs job 0 [] None (acts job)
  acts-are = run-acts 0 (value_count job) (omega arith) [] None (record { columns = λ s l. absurd (omega arith); rows = λ s l. absurd (omega arith) })
