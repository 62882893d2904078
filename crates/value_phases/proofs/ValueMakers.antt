-- What makes the values of a valid job, and the maps, columns and structures that they have.
use Rattle.std.proofs.Common.{◌≡◌, ℕ, zero, suc, ◌<◌, ◌≤◌, ◌⊎◌, inl, inr, Bool, true, false, cond, eqb, List, [], ◌∷◌, ◌++◌, map, filter, length, refl, sym, ap, ◌∙◌, subst, arith}
use Rattle.std.specs.Prelude.{All}
use Rattle.std.proofs.lemmas.Bool.{eq-eqb, eqb-true, cases_lt}
use Rattle.std.proofs.lemmas.List.Elements.{All-append}
use Rattle.model_defs.specs.declared.job.Job.{Job}
use Rattle.model_defs.specs.declared.job.VectorSpec.{VectorSpec}
use Rattle.model_defs.specs.declared.job.PartsSpec.{PartsSpec}
use Rattle.model_defs.specs.declared.job.MatrixSpec.{MatrixSpec}
use Rattle.model_defs.specs.declared.job.Step.{Step}
use Rattle.model_defs.specs.declared.job.Step.TheVariants as step
use Rattle.model_defs.specs.declared.shape.Shape.{Shape}
use Rattle.model_defs.specs.declared.shape.Sort.{Sort}
use Rattle.model_defs.specs.declared.shape.Sort.TheVariants.{Vector, Parts, Matrix, Split}
use Rattle.model_defs.specs.Limits.{HasFewCells, most_columns}
use Rattle.model_defs.specs.Makers.{Maker, GivenVector, GivenParts, GivenMatrix, Made, gives_value, makers, maker_of, value_count}
use Rattle.model_defs.specs.Shapes.{is_dense, is_split_sort, shape, shape_by}
use Rattle.model_defs.specs.Valid.{IsValid, IsValidMaker}
use Rattle.model_defs.proofs.KnownShapes.{shape-of-made, not-dense}
use Rattle.value_phases.specs.ValuePhases.{IsOnMap, IsStructured}

-- ---- the makers

-- vectors and parts of 1 to 16 columns, and statements of this kind
abbrev pub IsColumned : (Step → Type 0) → Maker → Type 0
IsColumned P (GivenVector spec) = (1 ≤ spec.columns) × (spec.columns ≤ most_columns)
IsColumned P (GivenParts spec) = (1 ≤ spec.columns) × (spec.columns ≤ most_columns)
IsColumned P (GivenMatrix spec) = Unit {0}
IsColumned P (Made step) = P step

module _ (P : Step → Type 0) where
  vectors-each : (job : Job) (specs : List VectorSpec) → All (λ v. HasFewCells job v.map v.columns) specs → All (IsColumned P) (map GivenVector specs)
  vectors-each job [] h k d l = absurd (omega arith)
  vectors-each job (x ∷ xs) h zero d l = let cells = h 0 x (omega arith) in (cells.some, cells.few)
  vectors-each job (x ∷ xs) h (suc k) d l = vectors-each job xs (λ i e m. h (suc i) e (omega arith)) k d (omega arith)

  parts-each : (job : Job) (specs : List PartsSpec) → All (λ v. HasFewCells job v.map v.columns) specs → All (IsColumned P) (map GivenParts specs)
  parts-each job [] h k d l = absurd (omega arith)
  parts-each job (x ∷ xs) h zero d l = let cells = h 0 x (omega arith) in (cells.some, cells.few)
  parts-each job (x ∷ xs) h (suc k) d l = parts-each job xs (λ i e m. h (suc i) e (omega arith)) k d (omega arith)

  matrices-each : (specs : List MatrixSpec) → All (IsColumned P) (map GivenMatrix specs)
  matrices-each [] k d l = absurd (omega arith)
  matrices-each (x ∷ xs) zero d l = tt
  matrices-each (x ∷ xs) (suc k) d l = matrices-each xs k d (omega arith)

  made-each : (steps : List Step) → All P steps → All (IsColumned P) (map Made (filter gives_value steps))
  made-each [] h = λ k d l. absurd (omega arith)
  made-each (s ∷ ss) h = by (gives_value s) (made-each ss (λ k d l. h (suc k) d (omega arith))) (h 0 s (omega arith))
    where
      with_first : (ms : List Maker) → All (IsColumned P) ms → P s → All (IsColumned P) (Made s ∷ ms)
      with_first ms rest here zero d l = here
      with_first ms rest here (suc k) d l = rest k d (omega arith)

      by : (b : Bool) → All (IsColumned P) (map Made (filter gives_value ss)) → P s → All (IsColumned P) (map Made (cond b (s ∷ filter gives_value ss) (filter gives_value ss)))
      by true rest here = with_first (map Made (filter gives_value ss)) rest here
      by false rest here = rest

  pub makers-are : (job : Job) → IsValid job → All P job.steps → (k : ℕ) → k < value_count job → IsColumned P (maker_of job k)
  makers-are job valid steps k l = all k (Made (step.Print 0)) l
    where
      all : All (IsColumned P) (makers job)
      all =
          All-append (IsColumned P) (map GivenVector job.vectors ++ map GivenParts job.parts ++ map GivenMatrix job.matrices) (map Made (filter gives_value job.steps))
          (All-append (IsColumned P) (map GivenVector job.vectors ++ map GivenParts job.parts) (map GivenMatrix job.matrices)
          (All-append (IsColumned P) (map GivenVector job.vectors) (map GivenParts job.parts) (vectors-each job job.vectors valid.limits.vectors) (parts-each job job.parts valid.limits.parts))
          (matrices-each job.matrices))
          (made-each job.steps steps)

-- ---- what holds of each value if it holds of one after those before it

abbrev IsAnyStep : Step → Type 0
IsAnyStep s = Unit {0}

pub each-value : (P : ℕ → Type 0) (count : ℕ) → ((k : ℕ) → k < count → ((v : ℕ) → v < k → P v) → P k) → (n : ℕ) → n ≤ count → (k : ℕ) → k < n → P k
each-value P count next zero l k m = absurd (omega arith)
each-value P count next (suc n) l k m = go (eqb k n) refl (each-value P count next n (omega arith))
  where
    go : (b : Bool) → eqb k n ≡ b → ((v : ℕ) → v < n → P v) → P k
    go true e rest = next k (omega arith) (λ v m. let same = eqb-true k n e in rest v (omega arith))
    go false e rest = rest k (smaller (cases_lt k n))
      where
        smaller : (k < n) ⊎ (n ≤ k) → k < n
        smaller (inl a) = a
        smaller (inr a) = let same : k ≡ n = omega arith in let t = eq-eqb k n same in absurd (let bad : ⊥ = cc in bad)

thin : {A : Type 0} (b : Bool) → is_dense (cond b Split Matrix) ≡ true → A
thin true e = absurd (let bad : ⊥ = cc in bad)
thin false e = absurd (let bad : ⊥ = cc in bad)

clash : {A : Type 0} (b : Bool) → b ≡ true → b ≡ false → A
clash b e f = absurd (let bad : ⊥ = cc in bad)

module _ (job : Job) (valid : IsValid job) where
  -- ---- the maps

  record IsOn (s : Shape) : Type 0 where
    known : s.rows < length job.maps
    some_column : is_dense s.sort ≡ true → 1 ≤ s.columns
    few_columns : is_dense s.sort ≡ true → s.columns ≤ most_columns
    domain : is_dense s.sort ≡ false → s.domain < length job.maps

  next-shape : (k : ℕ) → k < value_count job → ((v : ℕ) → v < k → IsOn (shape job v)) → IsOn (shape job k)
  next-shape k l rest = subst IsOn (sym (shape-of-made job valid k l)) (by (maker_of job k) (makers-are IsAnyStep job valid (λ i d m. tt) k l) (valid.values k l))
    where
      by : (m : Maker) → IsColumned IsAnyStep m → IsValidMaker job k m → IsOn (shape_by k (shape job) m)
      by (GivenVector spec) h v = record { known = v.0.0; some_column = λ e. h.0; few_columns = λ e. h.1; domain = λ e. absurd (let bad : ⊥ = cc in bad) }
      by (GivenParts spec) h v = record { known = v.0; some_column = λ e. h.0; few_columns = λ e. h.1; domain = λ e. absurd (let bad : ⊥ = cc in bad) }
      by (GivenMatrix spec) h v = record { known = v.0.0; some_column = λ e. thin spec.split e; few_columns = λ e. thin spec.split e; domain = λ e. v.1.0 }
      by (Made (step.Move name source m)) h v = let on = rest source v.0 in record { known = v.3.0; some_column = on.some_column; few_columns = on.few_columns; domain = on.domain }
      by (Made (step.Import name source onto mode)) h v = rest onto v.1.0
      by (Made (step.Export name source onto mode)) h v = rest onto v.1.0
      by (Made (step.Spread name source m)) h v =
          let on = rest source v.0.0 in
          record { known = v.1; some_column = λ e. on.some_column (ap is_dense v.0.1); few_columns = λ e. on.few_columns (ap is_dense v.0.1); domain = λ e. absurd (let bad : ⊥ = cc in bad) }
      by (Made (step.Update name x y alpha beta)) h v = rest x v.0
      by (Made (step.Scale name value alpha)) h v = rest value v
      by (Made (step.Apply name a x y alpha beta transposed)) h v = let on = rest x v.2.0 in record { known = side transposed; some_column = on.some_column; few_columns = on.few_columns; domain = on.domain }
        where
          side : (b : Bool) → cond b (shape job a).domain (shape job a).rows < length job.maps
          side true = (rest a v.0).domain (not-dense (shape job a).sort v.1)
          side false = (rest a v.0).known
      by (Made (step.Transpose name a)) h v = let on = rest a v.0 in record { known = on.domain (ap is_dense v.1); some_column = on.some_column; few_columns = on.few_columns; domain = λ e. on.known }
      by (Made (step.Multiply name a b)) h v =
          let on = rest a v.0.0 in record { known = on.known; some_column = on.some_column; few_columns = on.few_columns; domain = λ e. (rest b v.1.0).domain (ap is_dense v.1.1) }
      by (Made (step.Add name a b alpha beta)) h v = let on = rest a v.0.0 in record { known = on.known; some_column = on.some_column; few_columns = on.few_columns; domain = on.domain }
      by (Made (step.Assemble name source onto mode)) h v =
          let on = rest source v.0.0 in
          record { known = on.known; some_column = λ e. absurd (let bad : ⊥ = cc in bad); few_columns = λ e. absurd (let bad : ⊥ = cc in bad); domain = λ e. on.domain (ap is_dense v.0.1) }
      by (Made (step.Print value)) h v = absurd v

  pub shapes-are-on-maps : (k : ℕ) → k < value_count job → IsOnMap job k
  shapes-are-on-maps k l =
      let on = each-value (λ v. IsOn (shape job v)) (value_count job) next-shape (value_count job) (omega arith) k l in
      record { known = on.known; some_column = on.some_column; few_columns = on.few_columns; known_domain = on.domain }

  -- ---- the structures

  -- the structure of a matrix is that of a matrix that is no later, whole or split as it is
  pub record HasStructure (k : ℕ) : Type 0 where
    pub before : (shape job k).structure ≤ k
    pub own : IsStructured job (shape job k).structure
    pub sort : (shape job (shape job k).structure).sort ≡ (shape job k).sort

  abbrev HasOneIfMatrix : ℕ → Type 0
  HasOneIfMatrix k = is_dense (shape job k).sort ≡ false → HasStructure k

  pub own-structure : (k : ℕ) → k < value_count job → is_dense (shape job k).sort ≡ false → (shape job k).structure ≡ k → IsStructured job k
  own-structure k l d e = let on = shapes-are-on-maps k l in record { below = l; sparse = d; own = e; known_rows = on.known; known_domain = on.known_domain d }

  next-structure : (k : ℕ) → k < value_count job → ((v : ℕ) → v < k → HasOneIfMatrix v) → HasOneIfMatrix k
  next-structure k l rest d = by (maker_of job k) (valid.values k l) (shape-of-made job valid k l)
    where
      own : (shape job k).structure ≡ k → HasStructure k
      own e = record { before = omega (arith, e); own = subst (IsStructured job) (sym e) (own-structure k l d e); sort = ap (λ v. (shape job v).sort) e }

      shared : (v : ℕ) → v < k → (shape job k).structure ≡ (shape job v).structure → (shape job k).sort ≡ (shape job v).sort → HasStructure k
      shared v m e f =
          let r = rest v m (sym (ap is_dense f) ∙ d) in
          record { before = (let b = r.before in omega (arith, e, m, b)); own = subst (IsStructured job) (sym e) r.own; sort = ap (λ s. (shape job s).sort) e ∙ r.sort ∙ sym f }

      thick : {A : Type 0} (s : Shape) → shape job k ≡ s → is_dense s.sort ≡ true → A
      thick s e f = clash (is_dense s.sort) f (sym (ap (λ z. is_dense z.sort) e) ∙ d)

      by : (m : Maker) → IsValidMaker job k m → shape job k ≡ shape_by k (shape job) m → HasStructure k
      by (GivenVector spec) v e = thick _ e refl
      by (GivenParts spec) v e = thick _ e refl
      by (GivenMatrix spec) v e = own (ap (λ s. s.structure) e)
      by (Made (step.Move name source m)) v e = moved (eqb (shape job source).rows m) refl
        where
          moved : (b : Bool) → eqb (shape job source).rows m ≡ b → HasStructure k
          moved false f = own (ap (λ s. s.structure) e ∙ ap (λ b. cond b (shape job source).structure k) f)
          moved true f = shared source v.0 (ap (λ s. s.structure) e ∙ ap (λ b. cond b (shape job source).structure k) f) (ap (λ s. s.sort) e)
      by (Made (step.Import name source onto mode)) v e = thick _ e (ap is_dense v.1.1)
      by (Made (step.Export name source onto mode)) v e = thick _ e (ap is_dense v.1.1)
      by (Made (step.Spread name source m)) v e = thick _ e refl
      by (Made (step.Update name x y alpha beta)) v e = thick _ e v.3
      by (Made (step.Scale name value alpha)) v e = shared value v (ap (λ s. s.structure) e) (ap (λ s. s.sort) e)
      by (Made (step.Apply name a x y alpha beta transposed)) v e = thick _ e (ap is_dense v.2.1)
      by (Made (step.Transpose name a)) v e = own (ap (λ s. s.structure) e)
      by (Made (step.Multiply name a b)) v e = own (ap (λ s. s.structure) e)
      by (Made (step.Add name a b alpha beta)) v e = own (ap (λ s. s.structure) e)
      by (Made (step.Assemble name source onto mode)) v e = own (ap (λ s. s.structure) e)
      by (Made (step.Print value)) v e = absurd v

  pub structures-are : (k : ℕ) → k < value_count job → is_dense (shape job k).sort ≡ false → HasStructure k
  structures-are k l d = each-value HasOneIfMatrix (value_count job) next-structure (value_count job) (omega arith) k l d

  dense-whole : (s : Sort) → is_dense s ≡ true → is_split_sort s ≡ false
  dense-whole Vector e = refl
  dense-whole Parts e = refl
  dense-whole Matrix e = absurd (let bad : ⊥ = cc in bad)
  dense-whole Split e = absurd (let bad : ⊥ = cc in bad)

  -- a split matrix with a structure of its own is that of a file
  pub split-file : (k : ℕ) → k < value_count job → (shape job k).sort ≡ Split → (shape job k).structure ≡ k → (spec : MatrixSpec) × (maker_of job k ≡ GivenMatrix spec) × (spec.split ≡ true)
  split-file k l split own = by (maker_of job k) refl (valid.values k l) (shape-of-made job valid k l)
    where
      other : {A : Type 0} (s : Sort) → (shape job k).sort ≡ s → is_split_sort s ≡ false → A
      other s e f = clash (is_split_sort s) (ap is_split_sort (sym e ∙ split)) f

      by : (m : Maker) → maker_of job k ≡ m → IsValidMaker job k m → shape job k ≡ shape_by k (shape job) m → (spec : MatrixSpec) × (maker_of job k ≡ GivenMatrix spec) × (spec.split ≡ true)
      by (GivenVector spec) is v e = other Vector (ap (λ s. s.sort) e) refl
      by (GivenParts spec) is v e = other Parts (ap (λ s. s.sort) e) refl
      by (GivenMatrix spec) is v e = (spec, is, file spec.split refl)
        where
          file : (b : Bool) → spec.split ≡ b → spec.split ≡ true
          file true f = f
          file false f = other Matrix (ap (λ s. s.sort) e ∙ ap (λ b. cond b Split Matrix) f) refl
      by (Made (step.Move name source m)) is v e = elim v.1 [
        | inl f ↦ other Vector (ap (λ s. s.sort) e ∙ f) refl
        | inr f ↦ other Matrix (ap (λ s. s.sort) e ∙ f.0) refl
      ]
      by (Made (step.Import name source onto mode)) is v e = other Parts (ap (λ s. s.sort) e ∙ v.1.1) refl
      by (Made (step.Export name source onto mode)) is v e = other Vector (ap (λ s. s.sort) e ∙ v.1.1) refl
      by (Made (step.Spread name source m)) is v e = other Parts (ap (λ s. s.sort) e) refl
      by (Made (step.Update name x y alpha beta)) is v e = other (shape job x).sort (ap (λ s. s.sort) e) (dense-whole (shape job x).sort v.3)
      by (Made (step.Scale name value alpha)) is v e =
          let s = structures-are value (omega (arith, v, l)) (ap is_dense (sym (ap (λ s. s.sort) e) ∙ split)) in
          let same : (shape job value).structure ≡ k = sym (ap (λ s. s.structure) e) ∙ own in
          absurd (let b = s.before in omega (arith, b, same, v))
      by (Made (step.Apply name a x y alpha beta transposed)) is v e = other Vector (ap (λ s. s.sort) e ∙ v.2.1) refl
      by (Made (step.Transpose name a)) is v e = other Matrix (ap (λ s. s.sort) e ∙ v.1) refl
      by (Made (step.Multiply name a b)) is v e = other Matrix (ap (λ s. s.sort) e ∙ v.0.1) refl
      by (Made (step.Add name a b alpha beta)) is v e = other Matrix (ap (λ s. s.sort) e ∙ v.0.1) refl
      by (Made (step.Assemble name source onto mode)) is v e = other Matrix (ap (λ s. s.sort) e) refl
      by (Made (step.Print value)) is v e = absurd v

  -- it is its own, or that of a value before it
  pub own-or-shared : (k : ℕ) → k < value_count job → is_dense (shape job k).sort ≡ false → IsStructured job k ⊎ ((shape job k).structure < k)
  own-or-shared k l d = by (cases_lt (shape job k).structure k) (structures-are k l d)
    where
      by : ((shape job k).structure < k) ⊎ (k ≤ (shape job k).structure) → HasStructure k → IsStructured job k ⊎ ((shape job k).structure < k)
      by (inl m) h = inr m
      by (inr m) h = inl (let b = h.before in own-structure k l d (omega (arith, m, b)))
