-- Whole values do not depend on the layout of their maps, where these are total.
use Rattle.std.proofs.Common.{◌≡◌, ℕ, zero, suc, ◌+◌, ◌<◌, ◌≤◌, ◌⊎◌, inl, inr, Bool, true, false, cond, eqb, List, [], ◌∷◌, ◌++◌, map, length, take, sum, Option, Some, None, get_or, refl, sym, ap, ◌∙◌, subst, arith}
use Rattle.std.specs.Prelude.{filter}
use Rattle.std.proofs.lemmas.Bool.{eq-eqb, cases_lt}
use Rattle.scalar_laws.specs.Semiring.{Semiring}
use Rattle.scalar_laws.specs.Conversions.{Conversions}
use Rattle.tables.specs.Tables.{only_rows}
use Rattle.map_core.specs.Layouts.{IsTotal, IsLayout}
use Rattle.mm_text.specs.Reading.{File}
use Rattle.model_defs.specs.Operations.{product, turned, grown, filled, completed, scaled, combination, transpose}
use Rattle.model_defs.specs.declared.job.Job.{Job}
use Rattle.model_defs.specs.declared.job.MapSpec.{MapSpec}
use Rattle.model_defs.specs.declared.job.Origin.{Origin}
use Rattle.model_defs.specs.declared.job.Origin.TheVariants.{Files, Fill}
use Rattle.model_defs.proofs.Mapped.{mapped-below}
use Rattle.model_defs.specs.Maps.{no_map, layout_of, is_mapped, size_of}
use Rattle.model_defs.specs.Turns.{Each, in_turn}
use Rattle.model_defs.specs.Shapes.{no_shape, Shape, shape, shape_by, Sort, Vector, Parts, Matrix, Split, is_by_rank, is_split_sort}
use Rattle.model_defs.specs.Makers.{Maker, GivenVector, GivenParts, GivenMatrix, Made, gives_value, makers, maker_of, value_count}
use Rattle.model_defs.specs.Pieces.{Value}
use Rattle.model_defs.specs.Eval.{Pick, assembled, addend, make_value, first_values}
use Rattle.model_defs.specs.Given.{no_file, file_count, value_file, matrix_of, given_vector, given_matrix}
use Rattle.model_defs.specs.FileMatrix.{number_of}
use Rattle.model_defs.specs.Valid.{IsValid, IsValidMaker, IsAddend}
use Rattle.model_defs.specs.Laws.{DifferInLayout, LayoutsDoNotMatter}
use Rattle.model_defs.proofs.KnownShapes.{shape-of-made, shapes-known}
use Rattle.model_defs.specs.declared.job.Step.TheVariants as step

never : {A : Type 0} → true ≡ false → A
never e = absurd (let bad : ⊥ = cc in bad)

length-map : {A B : Type 0} (f : A → B) (xs : List A) → length (map f xs) ≡ length xs
length-map f [] = refl
length-map f (x ∷ xs) = ap suc (length-map f xs)

size-at : (ms : List MapSpec) (m : ℕ) → (get_or ms m no_map).size ≡ get_or (map (λ m. m.size) ms) m 0
size-at [] m = refl
size-at (x ∷ xs) zero = refl
size-at (x ∷ xs) (suc m) = size-at xs m

-- which indices are those of a total map follows from its size
mapped-same : (a b : Job) (m i : ℕ) → IsLayout (layout_of a m) → IsLayout (layout_of b m) → IsTotal (layout_of a m) → IsTotal (layout_of b m) → size_of a m ≡ size_of b m → is_mapped a m i ≡ is_mapped b m i
mapped-same a b m i la lb ta tb s = by (is_mapped a m i) refl (is_mapped b m i) refl
  where
    by : (x : Bool) → is_mapped a m i ≡ x → (y : Bool) → is_mapped b m i ≡ y → x ≡ y
    by true e true f = refl
    by false e false f = refl
    by true e false f = let t = tb i (subst (λ n. i < n) s (mapped-below a m i la e)) in absurd (let bad : ⊥ = cc in bad)
    by false e true f = let t = ta i (subst (λ n. i < n) (sym s) (mapped-below b m i lb f)) in absurd (let bad : ⊥ = cc in bad)

-- what follows from the makers alone
abbrev shape_among : List Maker → ℕ → Shape
shape_among ms = in_turn no_shape (λ k shapes. shape_by k shapes (get_or ms k (Made (step.Print 0)))) (length ms)

abbrev file_among : List Maker → List File → ℕ → File
file_among ms files k = get_or files (sum (map file_count (take k ms)) + 0) no_file

module _ {S : Type 0} (R : Semiring S) (F : Conversions S) (a b : Job) (files : List File) (pick other : Pick) (valid : IsValid a) (also : IsValid b) (differ : DifferInLayout a b) where
  same-makers : makers a ≡ makers b
  same-makers = λ t. map GivenVector (differ.vectors t) ++ map GivenParts ((differ.parts.0 ∙ sym differ.parts.1) t) ++ map GivenMatrix (differ.matrices t) ++ map Made (filter gives_value (differ.steps t))

  same-shapes : shape a ≡ shape b
  same-shapes = ap shape_among same-makers

  same-size : (m : ℕ) → size_of a m ≡ size_of b m
  same-size m = size-at a.maps m ∙ ap (λ ns. get_or ns m 0) differ.sizes ∙ sym (size-at b.maps m)

  same-file : (k : ℕ) → value_file a files k 0 ≡ value_file b files k 0
  same-file k = ap (λ ms. file_among ms files k) same-makers

  as-many : length a.maps ≡ length b.maps
  as-many = sym (length-map (λ m. m.size) a.maps) ∙ ap length differ.sizes ∙ length-map (λ m. m.size) b.maps

  same-mapped : (m : ℕ) → m < length a.maps → is_mapped a m ≡ is_mapped b m
  same-mapped m l = λ t i. mapped-same a b m i (valid.layouts m l) (also.layouts m (subst (λ n. m < n) as-many l)) (differ.total m l).0 (differ.total m l).1 (same-size m) t

  -- no value has parts
  no-parts : {A : Type 0} (k : ℕ) → k < value_count a → is_by_rank (shape a k).sort ≡ true → A
  no-parts k l e = never (sym e ∙ differ.whole k l)

  make-same : (k : ℕ) → k < value_count a → (before after : Each (Value S)) → ((v : ℕ) → v < k → before v ≡ after v) → (m : Maker) → IsValidMaker a k m → shape a k ≡ shape_by k (shape a) m
      → make_value R F a files pick k before m ≡ make_value R F b files other k after m
  make-same k l before after h (GivenVector spec) v e = λ t p. by spec.from t
    where
      by : (o : Origin) → given_vector R F a files k spec o ≡ given_vector R F b files k spec o
      by (Fill n) = λ t. filled (same-mapped spec.map v.0.0 t) spec.columns (number_of R F n)
      by (Files names) = λ t. completed R (same-mapped spec.map v.0.0 t) spec.columns (matrix_of R F a files (same-file k t))
  make-same k l before after h (GivenParts spec) v e = no-parts k l (ap (λ s. is_by_rank s.sort) e)
  make-same k l before after h (GivenMatrix spec) v e = by spec.split (ap (λ s. is_by_rank s.sort) e)
    where
      by : (s : Bool) → is_by_rank (shape a k).sort ≡ is_by_rank (cond s Split Matrix) → given_matrix R F a files k s ≡ given_matrix R F b files k s
      by true e = no-parts k l e
      by false e = λ t p. matrix_of R F a files (same-file k t)
  make-same k l before after h (Made (step.Move name source m)) v e = λ t p. only_rows (same-mapped m v.3.0 t) (h source v.0 t p)
  make-same k l before after h (Made (step.Import name source onto mode)) v e = no-parts onto (omega (arith, v.1.0)) (ap is_by_rank v.1.1)
  make-same k l before after h (Made (step.Export name source onto mode)) v e = no-parts source (omega (arith, v.0.0)) (ap is_by_rank v.0.1)
  make-same k l before after h (Made (step.Spread name source m)) v e = no-parts k l (ap (λ s. is_by_rank s.sort) e)
  make-same k l before after h (Made (step.Update name x y alpha beta)) v e = λ t p. combination R (number_of R F alpha) (h x v.0 t p) (number_of R F beta) (h y v.1 t p)
  make-same k l before after h (Made (step.Scale name value alpha)) v e = λ t p. scaled R (number_of R F alpha) (h value v t p)
  make-same k l before after h (Made (step.Apply name c x y alpha beta transposed)) v e =
      λ t p. grown R (number_of R F alpha) (product R (sizes t) (turned transposed (matrix (is_split_sort (shape a c).sort) refl t)) (h x v.2.0 t p)) (number_of R F beta) (added y v.4 t p)
    where
      sizes : size_of a (shape a x).rows ≡ size_of b (shape b x).rows
      sizes = same-size (shape a x).rows ∙ (λ t. size_of b (same-shapes t x).rows)

      split : (s : Sort) → is_by_rank s ≡ false → is_split_sort s ≡ false
      split Vector f = refl
      split Parts f = refl
      split Matrix f = refl
      split Split f = cc

      plain : is_split_sort (shape a c).sort ≡ false
      plain = split (shape a c).sort (differ.whole c (omega (arith, v.0)))

      matrix : (s : Bool) → is_split_sort (shape a c).sort ≡ s → assembled R F a files s (before c) ≡ assembled R F b files (is_split_sort (shape b c).sort) (after c)
      matrix true f = never (sym f ∙ plain)
      matrix false f = (λ t. h c v.0 t 0) ∙ (λ t. assembled R F b files ((sym f ∙ (λ t. is_split_sort (same-shapes t c).sort)) t) (after c))

      sort : (shape a k).sort ≡ Vector
      sort = ap (λ s. s.sort) e ∙ v.2.1

      added : (o : Option ℕ) → IsAddend a k o → addend R F a files (shape a k) before o ≡ addend R F b files (shape b k) after o
      added None g =
          (λ t p. filled (same-mapped (shape a k).rows ((shapes-known a valid k l).owner sort).0 t) (shape a k).columns R.nought)
          ∙ (λ t p. filled (is_mapped b (same-shapes t k).rows) (same-shapes t k).columns R.nought)
      added (Some y) g = h y g.0.0
  make-same k l before after h (Made (step.Transpose name c)) v e = λ t p. transpose (h c v.0 t p)
  make-same k l before after h (Made (step.Multiply name c d)) v e =
      λ t p. product R ((same-size (shape a c).domain ∙ (λ t. size_of b (same-shapes t c).domain)) t) (h c v.0.0 t p) (h d v.1.0 t p)
  make-same k l before after h (Made (step.Add name c d alpha beta)) v e = λ t p. combination R (number_of R F alpha) (h c v.0.0 t p) (number_of R F beta) (h d v.1.0 t p)
  make-same k l before after h (Made (step.Assemble name source onto mode)) v e = no-parts source (omega (arith, v.0.0)) (ap is_by_rank v.0.1)
  make-same k l before after h (Made (step.Print value)) v e = absurd v

  first-same : (n : ℕ) → n ≤ value_count a → (v : ℕ) → v < n → first_values R F a files pick n v ≡ first_values R F b files other n v
  first-same zero l v m = absurd (omega arith)
  first-same (suc n) l v m = by (eqb v n) refl (first-same n (omega arith))
    where
      smaller : eqb v n ≡ false → v < n
      smaller e = go (cases_lt v n)
        where
          go : (v < n) ⊎ (n ≤ v) → v < n
          go (inl f) = f
          go (inr f) = let same : v ≡ n = omega arith in let t = eq-eqb v n same in absurd (let bad : ⊥ = cc in bad)

      by : (c : Bool) → eqb v n ≡ c → ((v : ℕ) → v < n → first_values R F a files pick n v ≡ first_values R F b files other n v)
          → cond c (make_value R F a files pick n (first_values R F a files pick n) (maker_of a n)) (first_values R F a files pick n v)
          ≡ cond c (make_value R F b files other n (first_values R F b files other n) (maker_of b n)) (first_values R F b files other n v)
      by true e h =
          make-same n (omega arith) (first_values R F a files pick n) (first_values R F b files other n) h (maker_of a n) (valid.values n (omega arith)) (shape-of-made a valid n (omega arith))
          ∙ ap (λ ms. make_value R F b files other n (first_values R F b files other n) (get_or ms n (Made (step.Print 0)))) same-makers
      by false e h = h v (smaller e)

pub layouts_do_not_matter : {S : Type 0} (R : Semiring S) (F : Conversions S) → LayoutsDoNotMatter R F
layouts_do_not_matter R F = λ a b files pick other valid also fits differ v l.
    first-same R F a b files pick other valid also differ (value_count a) (omega arith) v l
    ∙ (λ t. first_values R F b files other (length (same-makers R F a b files pick other valid also differ t)) v)
