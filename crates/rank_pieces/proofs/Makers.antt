-- What makes the values of a job, and where those stand that are given.
use Rattle.std.proofs.Common.{◌≡◌, ℕ, zero, suc, ◌+◌, ◌-◌, ◌<◌, ◌⊎◌, inl, inr, Bool, true, false, cond, List, [], ◌∷◌, ◌++◌, map, filter, length, get_or, refl, sym, ap, ◌∙◌, subst, arith, append_assoc}
use Rattle.std.specs.Prelude.{All, pos}
use Rattle.std.proofs.lemmas.Bool.{cases_lt}
use Rattle.std.proofs.lemmas.List.{length-append, length-map, get_or-append-add}
use Rattle.std.proofs.lemmas.List.Elements.{All-append}
use Rattle.model_defs.specs.declared.job.Job.{Job}
use Rattle.model_defs.specs.declared.job.Origin.TheVariants.{Fill}
use Rattle.model_defs.specs.declared.job.VectorSpec.{VectorSpec}
use Rattle.model_defs.specs.declared.job.PartsSpec.{PartsSpec}
use Rattle.model_defs.specs.declared.job.MatrixSpec.{MatrixSpec}
use Rattle.model_defs.specs.declared.job.Step.{Step}
use Rattle.model_defs.specs.declared.job.Step.TheVariants as step
use Rattle.model_defs.specs.declared.shape.Sort.TheVariants as sort
use Rattle.model_defs.specs.Makers.{Maker, GivenVector, GivenParts, GivenMatrix, Made, maker_of, makers, value_count, gives_value}
use Rattle.model_defs.specs.Shapes.{shape, shape_by, dense_shape, is_dense}
use Rattle.model_defs.specs.Valid.{IsValid, IsValidMaker}
use Rattle.model_defs.proofs.KnownShapes.{shape-of-made}
use Rattle.rank_share.specs.Shares.{cell_count}
use Rattle.rank_share.proofs.Positions.{cells-before, maker-vector, maker-parts}
use Rattle.value_phases.specs.ValuePhases.{IsStructured}

abbrev no_vector : VectorSpec
no_vector = record { name = []; map = 0; columns = 0; from = Fill (pos 0) }

abbrev no_parts : PartsSpec
no_parts = record { name = []; map = 0; columns = 0; from = Fill (pos 0) }

-- ---- vectors and parts

module _ (job : Job) (valid : IsValid job) where
  vector-shape : (k : ℕ) (d : VectorSpec) → k < length job.vectors → shape job k ≡ dense_shape k sort.Vector (get_or job.vectors k d).map (get_or job.vectors k d).columns
  vector-shape k d l =
      let known : k < value_count job = (let b = cells-before job in omega arith) in
      shape-of-made job valid k known ∙ ap (shape_by k (shape job)) (maker-vector job k d l)

  parts-shape : (m : ℕ) (d : PartsSpec) → m < length job.parts
      → shape job (length job.vectors + m) ≡ dense_shape (length job.vectors + m) sort.Parts (get_or job.parts m d).map (get_or job.parts m d).columns
  parts-shape m d l =
      let known : length job.vectors + m < value_count job = (let b = cells-before job in omega arith) in
      shape-of-made job valid (length job.vectors + m) known ∙ ap (shape_by (length job.vectors + m) (shape job)) (maker-parts job m d l)

-- a vector, or parts
abbrev IsCells : Job → ℕ → Type 0
IsCells job k = (k < length job.vectors) ⊎ ((m : ℕ) × (k ≡ length job.vectors + m) × (m < length job.parts))

cells : (job : Job) (k : ℕ) → k < cell_count job → IsCells job k
cells job k l = elim (cases_lt k (length job.vectors)) [
  | inl m ↦ inl m
  | inr m ↦ inr (k - length job.vectors, omega arith, omega arith)
]

-- what holds of the makers of vectors and of parts holds of the makers of these values
pub by-cells : (job : Job) (P : Maker → Type 0) → ((spec : VectorSpec) → P (GivenVector spec)) → ((spec : PartsSpec) → P (GivenParts spec))
    → (k : ℕ) → k < cell_count job → P (maker_of job k)
by-cells job P of_vectors of_parts k l = go (cells job k l)
  where
    go : IsCells job k → P (maker_of job k)
    go (inl m) = subst P (sym (maker-vector job k no_vector m)) (of_vectors (get_or job.vectors k no_vector))
    go (inr (m, same, low)) = subst P (sym (ap (maker_of job) same ∙ maker-parts job m no_parts low)) (of_parts (get_or job.parts m no_parts))

module _ (job : Job) (valid : IsValid job) where
  pub rows-known : (k : ℕ) → k < cell_count job → (shape job k).rows < length job.maps
  rows-known k l = go (cells job k l)
    where
      known : k < value_count job
      known = let b = cells-before job in omega arith

      go : IsCells job k → (shape job k).rows < length job.maps
      go (inl m) =
          let ok = subst (IsValidMaker job k) (maker-vector job k no_vector m) (valid.values k known) in
          subst (λ r. r < length job.maps) (sym (ap (λ s. s.rows) (vector-shape job valid k no_vector m))) ok.0.0
      go (inr (m, same, low)) =
          let ok = subst (IsValidMaker job k) (ap (maker_of job) same ∙ maker-parts job m no_parts low) (valid.values k known) in
          subst (λ r. r < length job.maps) (sym (ap (λ s. s.rows) (ap (shape job) same ∙ parts-shape job valid m no_parts low))) ok.0

  pub cells-dense : (k : ℕ) → k < cell_count job → is_dense (shape job k).sort ≡ true
  cells-dense k l = go (cells job k l)
    where
      go : IsCells job k → is_dense (shape job k).sort ≡ true
      go (inl m) = ap (λ s. is_dense s.sort) (vector-shape job valid k no_vector m)
      go (inr (m, same, low)) = ap (λ s. is_dense s.sort) (ap (shape job) same ∙ parts-shape job valid m no_parts low)

-- ---- which values are given

-- neither a vector nor parts
abbrev IsBehind : Maker → Type 0
IsBehind (GivenVector spec) = ⊥
IsBehind (GivenParts spec) = ⊥
IsBehind _ = Unit {0}

behind-steps : (ys : List Step) (n : ℕ) → IsBehind (get_or (map Made ys) n (Made (step.Print 0)))
behind-steps [] n = tt
behind-steps (y ∷ ys) zero = tt
behind-steps (y ∷ ys) (suc n) = behind-steps ys n

behind-cells : (xs : List MatrixSpec) (ys : List Step) (n : ℕ) → IsBehind (get_or (map GivenMatrix xs ++ map Made ys) n (Made (step.Print 0)))
behind-cells [] ys n = behind-steps ys n
behind-cells (x ∷ xs) ys zero = tt
behind-cells (x ∷ xs) ys (suc n) = behind-cells xs ys n

-- a matrix is among the matrices
abbrev IsGivenMatrix : Maker → Type 0
IsGivenMatrix (GivenMatrix spec) = Unit {0}
IsGivenMatrix _ = ⊥

no-step : (ys : List Step) (n : ℕ) → IsGivenMatrix (get_or (map Made ys) n (Made (step.Print 0))) → ⊥
no-step [] n e = e
no-step (y ∷ ys) zero e = e
no-step (y ∷ ys) (suc n) e = no-step ys n e

among-matrices : (xs : List MatrixSpec) (ys : List Step) (n : ℕ) → IsGivenMatrix (get_or (map GivenMatrix xs ++ map Made ys) n (Made (step.Print 0))) → n < length xs
among-matrices [] ys n e = absurd (no-step ys n e)
among-matrices (x ∷ xs) ys zero e = omega arith
among-matrices (x ∷ xs) ys (suc n) e = let low = among-matrices xs ys n e in omega arith

module _ (job : Job) where
  cells-many : length (map GivenVector job.vectors ++ map GivenParts job.parts) ≡ cell_count job
  cells-many = length-append (map GivenVector job.vectors) (map GivenParts job.parts) ∙ (λ t. length-map job.vectors GivenVector t + length-map job.parts GivenParts t)

  maker-behind : (n : ℕ) → maker_of job (cell_count job + n) ≡ get_or (map GivenMatrix job.matrices ++ map Made (filter gives_value job.steps)) n (Made (step.Print 0))
  maker-behind n =
      let front = map GivenVector job.vectors ++ map GivenParts job.parts in
      let back = map GivenMatrix job.matrices ++ map Made (filter gives_value job.steps) in
      ap (λ xs. get_or xs (cell_count job + n) (Made (step.Print 0))) (append_assoc front (map GivenMatrix job.matrices) (map Made (filter gives_value job.steps)))
      ∙ ap (λ c. get_or (front ++ back) (c + n) (Made (step.Print 0))) (sym cells-many)
      ∙ get_or-append-add front back n (Made (step.Print 0))

  among-cells : (k : ℕ) → (IsBehind (maker_of job k) → ⊥) → k < cell_count job
  among-cells k not_behind = elim (cases_lt k (cell_count job)) [
    | inl low ↦ low
    | inr high ↦
        let n = k - cell_count job in
        let same : cell_count job + n ≡ k = omega arith in
        absurd (not_behind (subst IsBehind (sym (maker-behind n) ∙ ap (maker_of job) same) (behind-cells job.matrices (filter gives_value job.steps) n)))
  ]

  pub given-vector : (k : ℕ) (spec : VectorSpec) → maker_of job k ≡ GivenVector spec → k < cell_count job
  given-vector k spec e = among-cells k (λ behind. subst IsBehind e behind)

  pub given-parts : (k : ℕ) (spec : PartsSpec) → maker_of job k ≡ GivenParts spec → k < cell_count job
  given-parts k spec e = among-cells k (λ behind. subst IsBehind e behind)

  -- where a given matrix stands
  pub given-matrix : (k : ℕ) (spec : MatrixSpec) → maker_of job k ≡ GivenMatrix spec → (n : ℕ) × (k ≡ cell_count job + n) × (n < length job.matrices)
  given-matrix k spec e = elim (cases_lt k (cell_count job)) [
    | inl low ↦ absurd (by-cells job (λ m. m ≡ GivenMatrix spec → ⊥) (λ v f. let bad : ⊥ = cc in bad) (λ p f. let bad : ⊥ = cc in bad) k low e)
    | inr high ↦
        let n = k - cell_count job in
        let same : k ≡ cell_count job + n = omega arith in
        (n, same, among-matrices job.matrices (filter gives_value job.steps) n (subst IsGivenMatrix (sym e ∙ ap (maker_of job) same ∙ maker-behind n) tt))
  ]

  module _ (valid : IsValid job) (k : ℕ) (known : k < value_count job) where
    pub shape-vector : (spec : VectorSpec) → maker_of job k ≡ GivenVector spec → shape job k ≡ dense_shape k sort.Vector spec.map spec.columns
    shape-vector spec e = shape-of-made job valid k known ∙ ap (shape_by k (shape job)) e

    pub shape-parts : (spec : PartsSpec) → maker_of job k ≡ GivenParts spec → shape job k ≡ dense_shape k sort.Parts spec.map spec.columns
    shape-parts spec e = shape-of-made job valid k known ∙ ap (shape_by k (shape job)) e

    -- nothing is printed in place of a value
    pub no-print : (value : ℕ) → maker_of job k ≡ Made (step.Print value) → ⊥
    no-print value e = subst (IsValidMaker job k) e (valid.values k known)

    -- a given matrix has a structure of its own
    pub matrix-structured : (spec : MatrixSpec) → maker_of job k ≡ GivenMatrix spec → IsStructured job k
    matrix-structured spec e =
        let made : shape job k ≡ shape_by k (shape job) (GivenMatrix spec) = shape-of-made job valid k known ∙ ap (shape_by k (shape job)) e in
        let ok = subst (IsValidMaker job k) e (valid.values k known) in
        record {
          below = known;
          sparse = ap (λ s. is_dense s.sort) made ∙ loose spec.split;
          own = ap (λ s. s.structure) made;
          known_rows = subst (λ s. s.rows < length job.maps) (sym made) ok.0.0;
          known_domain = subst (λ s. s.domain < length job.maps) (sym made) ok.1.0;
        }
      where
        loose : (b : Bool) → is_dense (cond b sort.Split sort.Matrix) ≡ false
        loose true = refl
        loose false = refl
