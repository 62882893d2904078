-- Where the makers of values stand.
use Rattle.std.proofs.Common.{◌≡◌, ℕ, zero, suc, ◌+◌, ◌-◌, ◌<◌, ◌≤◌, List, [], ◌∷◌, ◌++◌, None, Some, length, get_or, map, filter, refl, sym, ap, ◌∙◌, arith, length-append}
use Rattle.std.specs.List.{slice_get}
use Rattle.std.proofs.lemmas.List.{length-map, get_or_append_left, get_or-append-add, get_or-map}
use Rattle.model_defs.specs.declared.job.Job.{Job}
use Rattle.model_defs.specs.declared.job.MatrixSpec.{MatrixSpec}
use Rattle.model_defs.specs.declared.job.PartsSpec.{PartsSpec}
use Rattle.model_defs.specs.declared.job.VectorSpec.{VectorSpec}
use Rattle.model_defs.specs.declared.job.Step.{Step}
use Rattle.model_defs.specs.declared.job.Step.TheVariants as step
use Rattle.model_defs.specs.Makers.{Maker, GivenVector, GivenParts, GivenMatrix, Made, gives_value, maker_of}

none : Maker
none = Made (step.Print 0)

-- a list between two others
between : (front mid back : List Maker) (k n : ℕ) → n ≡ length front → k < length mid → get_or ((front ++ mid) ++ back) (n + k) none ≡ get_or mid k none
between front mid back k n e l =
    let all = length-append front mid in
    get_or_append_left (front ++ mid) back none (n + k) (omega arith)
    ∙ ap (λ i. get_or (front ++ mid) (i + k) none) e
    ∙ get_or-append-add front mid k none

-- what a statement makes, and what stands behind the last
made-at : (steps : List Step) (j : ℕ) (s : Step) → Some s ≡ slice_get steps j → Made s ≡ get_or (map Made steps) j none
made-at [] j s e = absurd (cc)
made-at (x ∷ xs) zero s e = let same : s ≡ x = cc in ap Made same
made-at (x ∷ xs) (suc j) s e = made-at xs j s e

made-behind : (steps : List Step) (j : ℕ) → None ≡ slice_get steps j → none ≡ get_or (map Made steps) j none
made-behind [] j e = refl
made-behind (x ∷ xs) zero e = absurd (cc)
made-behind (x ∷ xs) (suc j) e = made-behind xs j e

module _ (job : Job) where
  vectors : List Maker
  vectors = map GivenVector job.vectors

  parts : List Maker
  parts = map GivenParts job.parts

  matrices : List Maker
  matrices = map GivenMatrix job.matrices

  steps : List Maker
  steps = map Made (filter gives_value job.steps)

  maker-is : (k : ℕ) → maker_of job k ≡ get_or (((vectors ++ parts) ++ matrices) ++ steps) k none
  unfolding vectors parts matrices steps none
  maker-is k = refl

  pub vector-read : (k : ℕ) (specs : List VectorSpec) (spec : VectorSpec) → k < length specs → specs ≡ job.vectors → spec ≡ get_or specs k spec → GivenVector spec ≡ maker_of job k
  unfolding vectors
  vector-read k specs spec l same read =
      let many = ap length same in
      let count = length-map job.vectors GivenVector in
      let front = length-append vectors parts in
      let all = length-append (vectors ++ parts) matrices in
      sym (maker-is k
      ∙ get_or_append_left ((vectors ++ parts) ++ matrices) steps none k (omega arith)
      ∙ get_or_append_left (vectors ++ parts) matrices none k (omega arith)
      ∙ get_or_append_left vectors parts none k (omega arith)
      ∙ get_or-map GivenVector job.vectors k spec none (omega arith)
      ∙ ap GivenVector (ap (λ xs. get_or xs k spec) (sym same) ∙ sym read))

  pub parts-read : (m : ℕ) (specs : List PartsSpec) (spec : PartsSpec) → m < length specs → specs ≡ job.parts → spec ≡ get_or specs m spec → GivenParts spec ≡ maker_of job (length job.vectors + m)
  unfolding vectors parts
  parts-read m specs spec l same read =
      let many = ap length same in
      let front = length-append vectors parts in
      let all = length-append (vectors ++ parts) matrices in
      let before = length-map job.vectors GivenVector in
      let count = length-map job.parts GivenParts in
      sym (maker-is (length job.vectors + m)
      ∙ get_or_append_left ((vectors ++ parts) ++ matrices) steps none (length job.vectors + m) (omega arith)
      ∙ between vectors parts matrices m (length job.vectors) (sym before) (omega arith)
      ∙ get_or-map GivenParts job.parts m spec none (omega arith)
      ∙ ap GivenParts (ap (λ xs. get_or xs m spec) (sym same) ∙ sym read))

  front-count : length job.vectors + length job.parts ≡ length (vectors ++ parts)
  unfolding vectors parts
  front-count =
      let front = length-append vectors parts in
      let before = length-map job.vectors GivenVector in
      let count = length-map job.parts GivenParts in
      omega arith

  pub matrix-read : (m : ℕ) (specs : List MatrixSpec) (spec : MatrixSpec) → m < length specs → specs ≡ job.matrices → spec ≡ get_or specs m spec
      → GivenMatrix spec ≡ maker_of job (length job.vectors + length job.parts + m)
  unfolding matrices
  matrix-read m specs spec l same read =
      let many = ap length same in
      let count = length-map job.matrices GivenMatrix in
      sym (maker-is (length job.vectors + length job.parts + m)
      ∙ between (vectors ++ parts) matrices steps m (length job.vectors + length job.parts) front-count (omega arith)
      ∙ get_or-map GivenMatrix job.matrices m spec none (omega arith)
      ∙ ap GivenMatrix (ap (λ xs. get_or xs m spec) (sym same) ∙ sym read))

  -- the values behind those that are given
  behind : (k n : ℕ) → n ≡ length job.matrices → n ≤ k → maker_of job (length job.vectors + length job.parts + k) ≡ get_or (map Made (filter gives_value job.steps)) (k - n) none
  unfolding matrices steps
  behind k n e l =
      let count = length-map job.matrices GivenMatrix in
      let all = length-append (vectors ++ parts) matrices in
      let front = front-count in
      maker-is (length job.vectors + length job.parts + k)
      ∙ ap (λ i. get_or (((vectors ++ parts) ++ matrices) ++ steps) i none) (let h : length job.vectors + length job.parts + k ≡ length ((vectors ++ parts) ++ matrices) + (k - n) = omega arith in h)
      ∙ get_or-append-add ((vectors ++ parts) ++ matrices) steps (k - n) none

  pub step-read : (k : ℕ) (specs : List MatrixSpec) (ss : List Step) (s : Step) → length specs ≤ k → specs ≡ job.matrices → ss ≡ job.steps → Some s ≡ slice_get (filter gives_value ss) (k - length specs)
      → Made s ≡ maker_of job (length job.vectors + length job.parts + k)
  step-read k specs ss s l same is found =
      made-at (filter gives_value job.steps) (k - length specs) s (found ∙ ap (λ xs. slice_get (filter gives_value xs) (k - length specs)) is)
      ∙ sym (behind k (length specs) (ap length same) l)

  pub no-step : (k : ℕ) (specs : List MatrixSpec) (ss : List Step) → length specs ≤ k → specs ≡ job.matrices → ss ≡ job.steps → None ≡ slice_get (filter gives_value ss) (k - length specs)
      → Made (step.Print 0) ≡ maker_of job (length job.vectors + length job.parts + k)
  unfolding none
  no-step k specs ss l same is found =
      made-behind (filter gives_value job.steps) (k - length specs) (found ∙ ap (λ xs. slice_get (filter gives_value xs) (k - length specs)) is)
      ∙ sym (behind k (length specs) (ap length same) l)
