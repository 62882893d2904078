-- What calls answer where a value is made of the cells of another one.
use Rattle.std.proofs.Common.{◌≡◌, ℕ, zero, suc, ◌<◌, ◌≤◌, inl, inr, true, List, [], ◌∷◌, length, get_or, Option, None, Some, Result, Ok, Err, IfOk, refl, sym, ap, ◌∙◌, subst, arith}
use Rattle.std.specs.Prelude.{is_some, slice_get}
use Rattle.std.proofs.lemmas.Bool.{cases_lt}
use Rattle.std.proofs.lemmas.List.{get_or_default}
use Rattle.std.proofs.lemmas.Option.{same_Some, slice_get-get_or}
use Rattle.scalar_laws.specs.Semiring.{Semiring}
use Rattle.scalar_laws.specs.Conversions.{Conversions}
use Rattle.map_core.specs.Plans.{PlanLists}
use Rattle.mm_text.specs.Reading.{File}
use Rattle.multivector.specs.Vectors.{VectorState}
use Rattle.peers.specs.Protocols.{Letter}
use Rattle.model_defs.specs.declared.job.Job.{Job}
use Rattle.model_defs.specs.declared.job.Step.{Step}
use Rattle.model_defs.specs.declared.job.Step.TheVariants as step
use Rattle.model_defs.specs.declared.phase.Plan.{Plan}
use Rattle.model_defs.specs.declared.phase.Plan.TheVariants.{ImportPlan}
use Rattle.model_defs.specs.declared.shape.Shape.{Shape}
use Rattle.model_defs.specs.Makers.{Maker, GivenVector, GivenParts, GivenMatrix, Made, maker_of, value_count}
use Rattle.model_defs.specs.Maps.{has_index, list_of}
use Rattle.model_defs.specs.Operations.{filled}
use Rattle.model_defs.specs.Shapes.{is_dense, no_shape, shape}
use Rattle.model_defs.specs.Stages.{transfer_at}
use Rattle.model_defs.specs.Transfers.{from_owners}
use Rattle.plan_phases.specs.BookStages.{IsMadePlan}
use Rattle.rank_plans.specs.Books.{Book, made_of}
use Rattle.rank_share.specs.declared.share.Share.{Share}
use Rattle.rank_stages.specs.DataLaws.{copied_by}
use Rattle.rank_values.specs.Vectors.{global_table, lines_on}
use Rattle.value_phases.specs.ValuePhases.{IsCopy, IsMapPlan, copy_transfer}
use Rattle.rank_pieces.specs.declared.pieces.Piece.{Piece}
use Rattle.rank_makings.specs.Beginnings.{CanBegin, IsAt}
use Rattle.rank_makings.specs.Copying.{IsCopying}

pub if-ok : {T E : Type 0} {P Q : T → Type 0} (r : Result T E) → IfOk r P → ((x : T) → P x → Q x) → IfOk r Q
if-ok (Ok x) p f = f x p
if-ok (Err e) p f = tt

pub none-zeros : {S E : Type 0} (R : Semiring S) (F : Conversions S) (job : Job) (me rows columns : ℕ) (list : List ℕ) (r : Result (VectorState S) E) (m : Option ℕ) → list ≡ list_of job rows me
    → IfOk r (λ v. v.map ≡ list) → IfOk r (λ v. v.columns ≡ columns) → IfOk r (λ v. global_table v ≡ lines_on R F list columns [])
    → IfOk r (λ v. m ≡ None → (v.map ≡ list_of job rows me) × ((v.columns ≡ columns) × (global_table v ≡ filled (has_index job rows me) columns R.nought)))
none-zeros R F job me rows columns list (Ok v) m is same many cells = λ none. (same ∙ is, (many, cells ∙ ap (λ l. lines_on R F l columns []) is))
none-zeros R F job me rows columns list (Err x) m is same many cells = tt

-- ---- what is read of shapes, of pieces and of the book

beyond : (xs : List Shape) (v : ℕ) → length xs ≤ v → get_or xs v no_shape ≡ no_shape
beyond [] v l = refl
beyond (x ∷ xs) zero l = absurd (omega arith)
beyond (x ∷ xs) (suc v) l = beyond xs v (omega arith)

module _ {S : Type 0} {R : Semiring S} {F : Conversions S} {job : Job} {files : List File} {me : ℕ} {share : Share} {shapes : List Shape} {pieces : List (Piece S)} {given : List Letter} {k : ℕ}
    (at : IsAt R F job files me share shapes pieces given k) where
  -- each value has a shape in the list, since none has that of nothing
  pub shape-there : (v : ℕ) → v < value_count job → v < length shapes
  shape-there v l = elim (cases_lt v (length shapes)) [
    | inl low ↦ low
    | inr high ↦ absurd (nothing (ap (λ f. f v) (sym at.shapes_are) ∙ beyond shapes v high))
  ]
    where
      nothing : shape job v ≡ no_shape → ⊥
      nothing e =
          let some = subst (λ s. is_dense s.sort ≡ true → 1 ≤ s.columns) e (at.phased.shapes v l).some_column refl in
          let bad : ⊥ = omega arith in
          bad

  pub shape-at : (v : ℕ) (d : Shape) → v < value_count job → get_or shapes v d ≡ shape job v
  shape-at v d l = get_or_default shapes v d no_shape (shape-there v l) ∙ ap (λ f. f v) at.shapes_are

  -- a piece of a value before
  pub piece-there : (v : ℕ) → v < k → v < length pieces
  piece-there v l = let many = at.pieces_are.many in omega (arith, l, many)

  pub piece-read : (v : ℕ) (p : Piece S) → v < k → p ≡ get_or pieces v p → slice_get pieces v ≡ Some p
  piece-read v p l is = slice_get-get_or pieces v p (piece-there v l) ∙ ap (λ b. Some b) (sym is)

-- the plan of a copy's transfer is one between maps
map-plan : (job : Job) (k source : ℕ) (m : Maker) → (shape job source).rows < length job.maps → (shape job k).rows < length job.maps → IsMapPlan job (copy_transfer job k source m).plan
map-plan job k source (Made (step.Export name x onto mode)) low high = record { source = (shape job source).rows; target = (shape job k).rows; is = inr refl; known_source = low; known_target = high }
map-plan job k source (GivenVector spec) low high = record { source = (shape job source).rows; target = (shape job k).rows; is = inl refl; known_source = low; known_target = high }
map-plan job k source (GivenParts spec) low high = record { source = (shape job source).rows; target = (shape job k).rows; is = inl refl; known_source = low; known_target = high }
map-plan job k source (GivenMatrix spec) low high = record { source = (shape job source).rows; target = (shape job k).rows; is = inl refl; known_source = low; known_target = high }
map-plan job k source (Made s) low high = record { source = (shape job source).rows; target = (shape job k).rows; is = inl refl; known_source = low; known_target = high }

module _ {S : Type 0} {R : Semiring S} {F : Conversions S} {job : Job} {files : List File} {me : ℕ} {share : Share} {shapes : List Shape} {pieces : List (Piece S)} {given : List Letter} {book : Book}
    {k stage : ℕ} {came : Option (VectorState S)} (can : CanBegin R F job files me share shapes pieces given book k stage came) (copy : IsCopy job k)
    {s : Step} (step_is : Made s ≡ maker_of job k) {source : ℕ} (copied : copied_by (Made s) ≡ Some source) where
  source-same : source ≡ copy.source
  source-same = same_Some source copy.source (sym copied ∙ ap copied_by step_is ∙ copy.copied)

  pub source-before : source < k
  source-before = subst (λ v. v < k) (sym source-same) copy.before

  pub source-known : source < value_count job
  source-known = let low = copy.below in let before = source-before in omega arith

  transfer-same : transfer_at job k stage ≡ copy_transfer job k source (Made s)
  transfer-same =
      let known = can.known in
      let one = ap (λ ts. length ts) copy.transfers in
      let first : stage ≡ 0 = omega (arith, known, one) in
      (λ i. get_or (copy.transfers i) (first i) (from_owners (ImportPlan 0 0))) ∙ (λ i. copy_transfer job k (sym source-same i) (sym step_is i))

  -- what the book has of its plan
  made-there : (lists : PlanLists) × (made_of book (transfer_at job k stage).plan ≡ Some lists) × IsMadePlan job files me (transfer_at job k stage).plan lists
  made-there =
      can.made
      (subst (IsMapPlan job) (ap (λ t. t.plan) (sym transfer-same))
      (map-plan job k source (Made s) (can.at.phased.shapes source source-known).known (can.at.phased.shapes k copy.below).known))

  module _ (a b : Shape) {plan : Plan}
      (planned : (j : Job) (n x : ℕ) → (get_or shapes source a).rows ≡ (shape j x).rows → (get_or shapes k b).rows ≡ (shape j n).rows → plan ≡ (copy_transfer j n x (Made s)).plan) where
    plan-is : plan ≡ (transfer_at job k stage).plan
    plan-is =
        planned job k source (ap (λ s. s.rows) (shape-at can.at source a source-known)) (ap (λ s. s.rows) (shape-at can.at k b copy.below))
        ∙ sym (ap (λ t. t.plan) transfer-same)

    pub plan-made : is_some (made_of book plan) ≡ true
    plan-made = ap (λ p. is_some (made_of book p)) plan-is ∙ ap is_some made-there.1

    -- so the copy is begun by it
    pub copying : {made : PlanLists} → Some made ≡ made_of book plan → (lists : PlanLists) → lists ≡ made
        → IsCopying R F job files me pieces given k stage s (get_or shapes k b) source lists
    copying {made} e lists is = record {
      share = share;
      shapes = shapes;
      at = can.at;
      copy = copy;
      known = can.known;
      phase = can.phase;
      sends = can.sends;
      heard = can.heard;
      step_is = step_is;
      here_is = shape-at can.at k b copy.below;
      copied = copied;
      made =
          subst (IsMadePlan job files me (transfer_at job k stage).plan) (sym (is ∙ same_Some made made-there.0 (e ∙ ap (made_of book) plan-is ∙ made-there.1)))
          made-there.2;
    }
