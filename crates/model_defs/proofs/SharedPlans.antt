-- Matrices that share a structure have the same places, and so the same plans.
use Rattle.std.proofs.Common.{◌≡◌, ℕ, zero, suc, ◌<◌, ◌≤◌, ◌⊎◌, inl, inr, Bool, true, false, cond, ◌||◌, eqb, List, refl, sym, ap, ◌∙◌, subst, arith, Option, Some, None}
use Rattle.std.specs.Prelude.{is_some, filter}
use Rattle.std.specs.List.{list_any}
use Rattle.std.proofs.lemmas.Bool.{eq-eqb, eqb-true, cases_lt}
use Rattle.tables.specs.Indices.{count_from}
use Rattle.map_core.specs.Layouts.{IsTotal}
use Rattle.mm_text.specs.Reading.{File}
use Rattle.model_defs.specs.declared.job.Job.{Job}
use Rattle.model_defs.specs.Maps.{layout_of, is_mapped, has_index, size_of}
use Rattle.model_defs.specs.Makers.{Maker, GivenVector, GivenParts, GivenMatrix, Made, maker_of, value_count}
use Rattle.model_defs.specs.Shapes.{Shape, shape, shape_by, Vector, Matrix, Split, is_dense, is_by_rank, is_split_sort}
use Rattle.model_defs.specs.Eval.{make_value}
use Rattle.model_defs.specs.Pieces.{piece_of, has_row}
use Rattle.model_defs.specs.Valid.{IsValid, IsValidMaker}
use Rattle.model_defs.specs.Plans.{One, one_semiring, one_conversions, structure, structure_before, rank_columns, rank_rows, rows_of, dealt_places}
use Rattle.model_defs.specs.Laws.{HasPlaces, HasRowLaws, HaveSamePlans, PlansAreShared}
use Rattle.model_defs.proofs.Turns.{in_turn-is, in_turn-first}
use Rattle.model_defs.proofs.Structures.{map-some, only-places}
use Rattle.model_defs.proofs.KnownShapes.{shape-of-made}
use Rattle.model_defs.proofs.Whole.{are_before}
use Rattle.model_defs.proofs.AllRows.{one_laws, row_laws}
use Rattle.model_defs.specs.declared.job.Step.TheVariants as step

pub record HaveSamePlaces (job : Job) (files : List File) (v w : ℕ) : Type 0 where
  pub sort : (shape job v).sort ≡ (shape job w).sort
  pub rows : (shape job v).rows ≡ (shape job w).rows
  pub domain : (shape job v).domain ≡ (shape job w).domain
  pub places : (p : ℕ) → HasPlaces (structure job files v p) (structure job files w p)

same-self : (job : Job) (files : List File) (v : ℕ) → HaveSamePlaces job files v v
same-self job files v = record { sort = refl; rows = refl; domain = refl; places = λ p i j. refl }

same-then : (job : Job) (files : List File) (u v w : ℕ) → HaveSamePlaces job files u v → HaveSamePlaces job files v w → HaveSamePlaces job files u w
same-then job files u v w a b = record { sort = a.sort ∙ b.sort; rows = a.rows ∙ b.rows; domain = a.domain ∙ b.domain; places = λ p i j. a.places p i j ∙ b.places p i j }

module _ (job : Job) (files : List File) (valid : IsValid job) (laws : HasRowLaws one_semiring one_conversions job files) where
  pub structure-is : (k : ℕ) → k < value_count job → structure job files k ≡ make_value one_semiring one_conversions job files (λ v i j. 0) k (structure_before job files k) (maker_of job k)
  structure-is k l = in_turn-is (λ p. _) (λ k before. make_value one_semiring one_conversions job files (λ v i j. 0) k before (maker_of job k)) (value_count job) k l

  pub before-is : (k v : ℕ) → k ≤ value_count job → v < k → structure_before job files k v ≡ structure job files v
  before-is k v l m =
      in_turn-first (λ p. _) (λ k before. make_value one_semiring one_conversions job files (λ v i j. 0) k before (maker_of job k)) k v m
      ∙ sym (in_turn-first (λ p. _) (λ k before. make_value one_semiring one_conversions job files (λ v i j. 0) k before (maker_of job k)) (value_count job) v (omega arith))

  inside : (v : ℕ) → v < value_count job → is_dense (shape job v).sort ≡ false → (p i j : ℕ) → is_some (structure job files v p i j) ≡ true → i < size_of job (shape job v).rows
  inside v l d p i j e = (((are_before one_laws one_conversions job files laws (λ v i j. 0) (value_count job) (omega arith)).formed v l).within d p i j e).0

  next-same : (k : ℕ) → k < value_count job → ((v : ℕ) → v < k → is_dense (shape job v).sort ≡ false → HaveSamePlaces job files v (shape job v).structure)
      → is_dense (shape job k).sort ≡ false → HaveSamePlaces job files k (shape job k).structure
  next-same k l rest d = by (maker_of job k) refl (valid.values k l) (shape-of-made job valid k l)
    where
      own : (s : Shape) → shape job k ≡ s → s.structure ≡ k → HaveSamePlaces job files k (shape job k).structure
      own s e f = subst (HaveSamePlaces job files k) (sym (ap (λ s. s.structure) e ∙ f)) (same-self job files k)

      thick : {A : Type 0} (s : Shape) → shape job k ≡ s → is_dense s.sort ≡ true → A
      thick s e f = let t = sym d ∙ ap (λ s. is_dense s.sort) e ∙ f in absurd (let bad : ⊥ = cc in bad)

      by : (m : Maker) → maker_of job k ≡ m → IsValidMaker job k m → shape job k ≡ shape_by k (shape job) m → HaveSamePlaces job files k (shape job k).structure
      by (GivenVector spec) g v e = thick _ e refl
      by (GivenParts spec) g v e = thick _ e refl
      by (GivenMatrix spec) g v e = own _ e refl
      by (Made (step.Move name source m)) g v e = moved v.1 (eqb (shape job source).rows m) refl
        where
          moved : ((shape job source).sort ≡ Vector) ⊎ (((shape job source).sort ≡ Matrix) × IsTotal (layout_of job m)) → (b : Bool) → eqb (shape job source).rows m ≡ b → HaveSamePlaces job files k (shape job k).structure
          moved (inl s) b f = thick _ e (ap is_dense s)
          moved (inr s) false f = own _ e (ap (λ b. cond b (shape job source).structure k) f)
          moved (inr s) true f =
              subst (HaveSamePlaces job files k) (sym (ap (λ s. s.structure) e ∙ ap (λ b. cond b (shape job source).structure k) f))
              (same-then job files k source (shape job source).structure
              (record { sort = ap (λ s. s.sort) e; rows = ap (λ s. s.rows) e ∙ sym (eqb-true (shape job source).rows m f); domain = ap (λ s. s.domain) e; places = places })
              (rest source v.0 (ap is_dense s.0)))
            where
              kept : (p i j : ℕ) (o : Option One) → structure job files source p i j ≡ o → is_some (cond (is_mapped job m i) o None) ≡ is_some o
              kept p i j None h = none (is_mapped job m i)
                where
                  none : (b : Bool) → is_some (cond b (let absent : Option One = None in absent) None) ≡ false
                  none true = refl
                  none false = refl
              kept p i j (Some u) h = ap (λ b. is_some (cond b (Some u) None)) (s.1 i (subst (λ n. i < n) v.2 (inside source (omega (arith, v.0)) (ap is_dense s.0) p i j (ap is_some h))))

              places : (p : ℕ) → HasPlaces (structure job files k p) (structure job files source p)
              places p i j =
                  (λ t. is_some (structure-is k l t p i j))
                  ∙ (λ t. is_some (make_value one_semiring one_conversions job files (λ v i j. 0) k (structure_before job files k) (g t) p i j))
                  ∙ (λ t. is_some (cond (is_mapped job m i) (before-is k source (omega arith) v.0 t p i j) None))
                  ∙ kept p i j (structure job files source p i j) refl
      by (Made (step.Import name source onto mode)) g v e = thick _ e (ap is_dense v.1.1)
      by (Made (step.Export name source onto mode)) g v e = thick _ e (ap is_dense v.1.1)
      by (Made (step.Spread name source m)) g v e = thick _ e refl
      by (Made (step.Update name x y alpha beta)) g v e = thick _ e v.3
      by (Made (step.Scale name value alpha)) g v e =
          subst (HaveSamePlaces job files k) (sym (ap (λ s. s.structure) e))
          (same-then job files k value (shape job value).structure
          (record { sort = ap (λ s. s.sort) e; rows = ap (λ s. s.rows) e; domain = ap (λ s. s.domain) e; places = places })
          (rest value v (sym (ap (λ s. is_dense s.sort) e) ∙ d)))
        where
          places : (p : ℕ) → HasPlaces (structure job files k p) (structure job files value p)
          places p i j =
              (λ t. is_some (structure-is k l t p i j))
              ∙ (λ t. is_some (make_value one_semiring one_conversions job files (λ v i j. 0) k (structure_before job files k) (g t) p i j))
              ∙ map-some _ (structure_before job files k value p i j)
              ∙ (λ t. is_some (before-is k value (omega arith) v t p i j))
      by (Made (step.Apply name a x y alpha beta transposed)) g v e = thick _ e (ap is_dense v.2.1)
      by (Made (step.Transpose name a)) g v e = own _ e refl
      by (Made (step.Multiply name a b)) g v e = own _ e refl
      by (Made (step.Add name a b alpha beta)) g v e = own _ e refl
      by (Made (step.Assemble name source onto mode)) g v e = own _ e refl
      by (Made (step.Print value)) g v e = absurd v

  below-same : (n : ℕ) → n ≤ value_count job → (k : ℕ) → k < n → is_dense (shape job k).sort ≡ false → HaveSamePlaces job files k (shape job k).structure
  below-same zero l k m = absurd (omega arith)
  below-same (suc n) l k m = go (eqb k n) refl (below-same n (omega arith))
    where
      go : (b : Bool) → eqb k n ≡ b → ((v : ℕ) → v < n → is_dense (shape job v).sort ≡ false → HaveSamePlaces job files v (shape job v).structure) → is_dense (shape job k).sort ≡ false → HaveSamePlaces job files k (shape job k).structure
      go true e rest = next-same k (omega arith) (λ v m. let same = eqb-true k n e in rest v (omega arith))
      go false e rest = rest k (smaller (cases_lt k n))
        where
          smaller : (k < n) ⊎ (n ≤ k) → k < n
          smaller (inl a) = a
          smaller (inr a) = let same : k ≡ n = omega arith in let t = eq-eqb k n same in absurd (let bad : ⊥ = cc in bad)

-- the lists of the plans follow from the places
same-plans : (job : Job) (files : List File) (v w : ℕ) → HaveSamePlaces job files v w → HaveSamePlans job files v w
same-plans job files v w h = record {
  sort = h.sort;
  rows = h.rows;
  domain = h.domain;
  columns_of_ranks = λ p. columns p;
  rows_of_ranks = λ s p. rows s p;
}
  where
    piece : (p i j : ℕ) → is_some (piece_of job (shape job v) p (structure job files v) i j) ≡ is_some (piece_of job (shape job w) p (structure job files w) i j)
    piece p i j =
        (λ t. is_some (cond (is_by_rank (h.sort t) || has_index job (h.rows t) p i) (structure job files v p i j) None))
        ∙ only-places (has_row job (shape job w) p) (structure job files v p) (structure job files w p) (h.places p) i j

    columns : (p : ℕ) → rank_columns job files v p ≡ rank_columns job files w p
    columns p = λ t. filter (λ j. list_any (λ i. piece p i j t) (count_from 0 (size_of job (h.rows t)))) (count_from 0 (size_of job (h.domain t)))

    rows : (shape job v).sort ≡ Split → (p : ℕ) → rank_rows job files v p ≡ rank_rows job files w p
    rows s p =
        (λ t. rows_of (size_of job (h.rows t)) (size_of job (h.domain t)) (dealt_places job files (is_split_sort (s t)) v p))
        ∙ (λ t. filter (λ i. list_any (λ j. h.places p i j t) (count_from 0 (size_of job (shape job w).domain))) (count_from 0 (size_of job (shape job w).rows)))
        ∙ sym (λ t. rows_of (size_of job (shape job w).rows) (size_of job (shape job w).domain) (dealt_places job files (is_split_sort ((sym h.sort ∙ s) t)) w p))

pub plans_are_shared : PlansAreShared
plans_are_shared = λ job files v valid fits l d. same-plans job files v (shape job v).structure (below-same job files valid (row_laws one_laws job files valid fits) (value_count job) (omega arith) v l d)
