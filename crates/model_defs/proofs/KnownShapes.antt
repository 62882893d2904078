-- What is known of the maps of each value of a valid job, by its sort.
use Rattle.std.proofs.Common.{◌≡◌, ℕ, zero, suc, ◌<◌, ◌≤◌, ◌+◌, ◌⊎◌, inl, inr, Bool, true, false, cond, eqb, List, [], ◌∷◌, map, length, Some, refl, sym, ap, ◌∙◌, subst, arith}
use Rattle.std.proofs.lemmas.Bool.{eq-eqb, eqb-true, cases_lt}
use Rattle.std.proofs.lemmas.List.FromFn.{length-range_with_len}
use Rattle.std.specs.List.{range_with_len}
use Rattle.tables.specs.Indices.{count_from}
use Rattle.map_core.specs.Layouts.{IsTotal, owner}
use Rattle.map_core.specs.Uniform.{uniform_list}
use Rattle.map_core.proofs.Owners.{owner-below}
use Rattle.model_defs.specs.declared.job.Job.{Job}
use Rattle.model_defs.specs.declared.job.MapForm.{MapForm}
use Rattle.model_defs.specs.declared.job.MapForm.TheVariants.{Uniform, Blocks, Cyclic, Lists}
use Rattle.model_defs.specs.Maps.{layout_of, lists_of, size_of, map_at}
use Rattle.map_core.specs.Blocks.{runs_from}
use Rattle.map_core.specs.Cyclic.{cyclic_list}
use Rattle.model_defs.specs.Makers.{Maker, GivenVector, GivenParts, GivenMatrix, Made, maker_of, value_count}
use Rattle.model_defs.specs.Shapes.{Shape, shape, shape_by, moved_shape, Sort, Vector, Parts, Matrix, Split, is_dense}
use Rattle.model_defs.specs.Valid.{IsValid, IsValidMaker, IsForm, IsOwnerMap, IsMatrixMap}
use Rattle.model_defs.proofs.Rows.{first_shapes, shape-is, shape-first}
use Rattle.model_defs.specs.declared.job.Step.TheVariants as step

-- ---- as many lists as ranks

length-count : (n k : ℕ) → length (count_from n k) ≡ k
length-count n zero = refl
length-count n (suc k) = ap suc (length-count (n + 1) k)

length-of-map : {A B : Type 0} (f : A → B) (xs : List A) → length (map f xs) ≡ length xs
length-of-map f [] = refl
length-of-map f (x ∷ xs) = ap suc (length-of-map f xs)

length-runs : (g : ℕ) (counts : List ℕ) → length (runs_from g counts) ≡ length counts
length-runs g [] = refl
length-runs g (c ∷ cs) = ap suc (length-runs (g + c) cs)

pub lists-length : (P size : ℕ) (form : MapForm) → IsForm P size form → length (lists_of P size form) ≡ P
lists-length P size Uniform h = length-of-map (uniform_list P size) (range_with_len 0 P) ∙ length-range_with_len 0 P
lists-length P size (Blocks counts) h = length-runs 0 counts ∙ h.0
lists-length P size Cyclic h = length-of-map (cyclic_list P size) (count_from 0 P) ∙ length-count 0 P
lists-length P size (Lists lists) h = h

-- ---- the maps of values

pub record IsKnownShape (job : Job) (s : Shape) : Type 0 where
  pub owner : s.sort ≡ Vector → IsOwnerMap job s.rows
  pub matrix : is_dense s.sort ≡ false → IsMatrixMap job s.rows × IsMatrixMap job s.domain

-- a matrix, whole or split
pub not-dense : (sort : Sort) → (sort ≡ Matrix) ⊎ (sort ≡ Split) → is_dense sort ≡ false
not-dense sort (inl e) = ap is_dense e
not-dense sort (inr e) = ap is_dense e

module _ (job : Job) (valid : IsValid job) where
  -- the shape of a value, of the shapes of its operands
  pub shape-of-made : (k : ℕ) → k < value_count job → shape job k ≡ shape_by k (shape job) (maker_of job k)
  shape-of-made k l = shape-is job k l ∙ by (maker_of job k) (valid.values k l)
    where
      at : (v : ℕ) → v < k → first_shapes job k v ≡ shape job v
      at v m = shape-first job k v (omega arith) m

      by : (m : Maker) → IsValidMaker job k m → shape_by k (first_shapes job k) m ≡ shape_by k (shape job) m
      by (GivenVector spec) v = refl
      by (GivenParts spec) v = refl
      by (GivenMatrix spec) v = refl
      by (Made (step.Move name source m)) v = ap (λ s. moved_shape k s m) (at source v.0)
      by (Made (step.Import name source onto mode)) v = at onto v.1.0
      by (Made (step.Export name source onto mode)) v = at onto v.1.0
      by (Made (step.Spread name source m)) v = λ t. record (at source v.0.0 t) { sort = Parts; rows = m }
      by (Made (step.Update name x y alpha beta)) v = at x v.0
      by (Made (step.Scale name value alpha)) v = at value v
      by (Made (step.Apply name a x y alpha beta transposed)) v = λ t. record (at x v.2.0 t) { rows = cond transposed (at a v.0 t).domain (at a v.0 t).rows }
      by (Made (step.Transpose name a)) v = λ t. record (at a v.0 t) { rows = (at a v.0 t).domain; domain = (at a v.0 t).rows; structure = k }
      by (Made (step.Multiply name a b)) v = λ t. record (at a v.0.0 t) { domain = (at b v.1.0 t).domain; structure = k }
      by (Made (step.Add name a b alpha beta)) v = λ t. record (at a v.0.0 t) { structure = k }
      by (Made (step.Assemble name source onto mode)) v = λ t. record (at source v.0.0 t) { sort = Matrix; structure = k }
      by (Made (step.Print value)) v = absurd v

  next-shape : (k : ℕ) → k < value_count job → ((v : ℕ) → v < k → IsKnownShape job (shape job v)) → IsKnownShape job (shape job k)
  next-shape k l rest = subst (IsKnownShape job) (sym (shape-of-made k l)) (by (maker_of job k) (valid.values k l))
    where
      by : (m : Maker) → IsValidMaker job k m → IsKnownShape job (shape_by k (shape job) m)
      by (GivenVector spec) v = record { owner = λ e. v.0; matrix = λ e. absurd (let bad : ⊥ = cc in bad) }
      by (GivenParts spec) v = record { owner = λ e. absurd (let bad : ⊥ = cc in bad); matrix = λ e. absurd (let bad : ⊥ = cc in bad) }
      by (GivenMatrix spec) v = record { owner = λ e. no_vector spec.split e; matrix = λ e. (v.0, v.1) }
        where
          no_vector : {A : Type 0} (b : Bool) → cond b Split Matrix ≡ Vector → A
          no_vector true e = absurd (let bad : ⊥ = cc in bad)
          no_vector false e = absurd (let bad : ⊥ = cc in bad)
      by (Made (step.Move name source m)) v = record { owner = λ e. v.3; matrix = λ e. moved v.1 e }
        where
          moved : ((shape job source).sort ≡ Vector) ⊎ (((shape job source).sort ≡ Matrix) × IsTotal (layout_of job m)) → is_dense (shape job source).sort ≡ false → IsMatrixMap job m × IsMatrixMap job (shape job source).domain
          moved (inl f) e = let t = ap is_dense f in absurd (let bad : ⊥ = cc in bad)
          moved (inr f) e = ((v.3.0, v.3.1, f.1), ((rest source v.0).matrix e).1)
      by (Made (step.Import name source onto mode)) v = rest onto v.1.0
      by (Made (step.Export name source onto mode)) v = rest onto v.1.0
      by (Made (step.Spread name source m)) v = record { owner = λ e. absurd (let bad : ⊥ = cc in bad); matrix = λ e. absurd (let bad : ⊥ = cc in bad) }
      by (Made (step.Update name x y alpha beta)) v = rest x v.0
      by (Made (step.Scale name value alpha)) v = rest value v
      by (Made (step.Apply name a x y alpha beta transposed)) v = record { owner = λ e. side transposed; matrix = λ e. let t = ap is_dense v.2.1 in absurd (let bad : ⊥ = cc in bad) }
        where
          known : IsMatrixMap job (shape job a).rows × IsMatrixMap job (shape job a).domain
          known = (rest a v.0).matrix (not-dense (shape job a).sort v.1)

          side : (b : Bool) → IsOwnerMap job (cond b (shape job a).domain (shape job a).rows)
          side true = (known.1.0, known.1.1)
          side false = (known.0.0, known.0.1)
      by (Made (step.Transpose name a)) v = record { owner = λ e. (let t = v.1 in absurd (let bad : ⊥ = cc in bad)); matrix = λ e. let t = (rest a v.0).matrix e in (t.1, t.0) }
      by (Made (step.Multiply name a b)) v = record { owner = λ e. (let t = v.0.1 in absurd (let bad : ⊥ = cc in bad)); matrix = λ e. (((rest a v.0.0).matrix (ap is_dense v.0.1)).0, ((rest b v.1.0).matrix (ap is_dense v.1.1)).1) }
      by (Made (step.Add name a b alpha beta)) v = record { owner = λ e. (let t = v.0.1 in absurd (let bad : ⊥ = cc in bad)); matrix = λ e. (rest a v.0.0).matrix e }
      by (Made (step.Assemble name source onto mode)) v = record { owner = λ e. absurd (let bad : ⊥ = cc in bad); matrix = λ e. (rest source v.0.0).matrix (ap is_dense v.0.1) }
      by (Made (step.Print value)) v = absurd v

  below-shapes : (n : ℕ) → n ≤ value_count job → (k : ℕ) → k < n → IsKnownShape job (shape job k)
  below-shapes zero l k m = absurd (omega arith)
  below-shapes (suc n) l k m = go (eqb k n) refl (below-shapes n (omega arith))
    where
      go : (b : Bool) → eqb k n ≡ b → ((v : ℕ) → v < n → IsKnownShape job (shape job v)) → IsKnownShape job (shape job k)
      go true e rest = next-shape k (omega arith) (λ v m. let same = eqb-true k n e in rest v (omega arith))
      go false e rest = rest k (smaller (cases_lt k n))
        where
          smaller : (k < n) ⊎ (n ≤ k) → k < n
          smaller (inl a) = a
          smaller (inr a) = let same : k ≡ n = omega arith in let t = eq-eqb k n same in absurd (let bad : ⊥ = cc in bad)

  pub shapes-known : (k : ℕ) → k < value_count job → IsKnownShape job (shape job k)
  shapes-known k l = below-shapes (value_count job) (omega arith) k l

  -- owners are ranks
  pub ranked : (m : ℕ) → m < length job.maps → (i q : ℕ) → owner (layout_of job m) i ≡ Some q → q < job.ranks
  ranked m l i q e =
      let a = owner-below (layout_of job m) i q e in
      let b = lists-length job.ranks (size_of job m) (map_at job m).form (valid.forms m l) in
      omega (arith, a, b)
