-- What the tests of a statement say of its operands.
use Rattle.std.proofs.Common.{◌≡◌, ◌<◌, ℕ, Bool, true, false, not, cond, ◌&&◌, ◌||◌, ◌==◌, ◌⊎◌, ◌≢◌, inl, inr, Option, Some, None, Ok, Err, length, refl, sym, subst}
use Rattle.std.proofs.lemmas.Bool.{and_parts, eqb-true}
use Rattle.map_core.specs.Layouts.{IsTotal}
use Rattle.model_defs.specs.declared.job.Job.{Job}
use Rattle.model_defs.specs.declared.shape.Shape.{Shape}
use Rattle.model_defs.specs.declared.shape.Sort.{Sort}
use Rattle.model_defs.specs.declared.shape.Sort.TheVariants.{Vector, Parts, Matrix, Split}
use Rattle.model_defs.specs.Maps.{layout_of}
use Rattle.model_defs.specs.Shapes.{shape, is_dense, is_split_sort}
use Rattle.model_defs.specs.Valid.{IsOwnerMap, IsEarlier, IsAddend, IsBase, AreSameSize, IsCovered}
use Rattle.job_text.specs.Sorts.{is_vector, is_parts, is_matrix}
use Rattle.job_text.specs.Layouts.{is_one_to_one, is_total, covers}
use Rattle.job_text.specs.Known.{Known, layout_at, shape_at, map_name}
use Rattle.job_text.specs.Statements.{passes, sort_at, are_same_size, have_same_rows, have_same_columns, serves, is_covered, can_move, are_alike, map_of_y, is_addend, is_vector_or_none, is_matrix_or_none, is_base}
use Rattle.job_text.specs.declared.fault.JobFault.TheVariants.{BadMap, MapMismatch, NotCovered, WrongSort}
use Rattle.job_validity.proofs.Outcomes.{Holds}
use Rattle.job_validity.proofs.KeyFacts.{IsBelowOrNone}
use Rattle.job_validity.proofs.Seen.{IsSeen, owner-map, total-map, same-size, covered}

-- ---- sorts

pub vector-sort : (s : Sort) → is_vector s ≡ true → s ≡ Vector
vector-sort Vector e = refl
vector-sort Parts e = cc
vector-sort Matrix e = cc
vector-sort Split e = cc

pub parts-sort : (s : Sort) → is_parts s ≡ true → s ≡ Parts
parts-sort Vector e = cc
parts-sort Parts e = refl
parts-sort Matrix e = cc
parts-sort Split e = cc

pub matrix-sort : (s : Sort) → is_matrix s ≡ true → s ≡ Matrix
matrix-sort Vector e = cc
matrix-sort Parts e = cc
matrix-sort Matrix e = refl
matrix-sort Split e = cc

pub split-sort : (s : Sort) → is_split_sort s ≡ true → s ≡ Split
split-sort Vector e = cc
split-sort Parts e = cc
split-sort Matrix e = cc
split-sort Split e = refl

pub not-split-sort : (s : Sort) → not (is_split_sort s) ≡ true → s ≢ Split
not-split-sort s e same = let bad : not (is_split_sort Split) ≡ true = subst (λ t. not (is_split_sort t) ≡ true) same e in absurd (cc)

pub matrix-or-split : (s : Sort) → is_matrix s || is_split_sort s ≡ true → (s ≡ Matrix) ⊎ (s ≡ Split)
matrix-or-split Vector e = absurd (cc)
matrix-or-split Parts e = absurd (cc)
matrix-or-split Matrix e = inl refl
matrix-or-split Split e = inr refl

-- what is moved: a vector, or a matrix onto a map that has all indices
pub moved-sort : (T : Type 0) (s : Sort) (total : Bool) → is_vector s || is_matrix s ≡ true → not (is_matrix s) || total ≡ true → (total ≡ true → T) → (s ≡ Vector) ⊎ ((s ≡ Matrix) × T)
moved-sort T Vector total e f each = inl refl
moved-sort T Parts total e f each = absurd (cc)
moved-sort T Matrix total e f each = inr (refl, each f)
moved-sort T Split total e f each = absurd (cc)

pub vector-covered : (s : Sort) (c : Bool) → not (is_vector s) || c ≡ true → s ≡ Vector → c ≡ true
vector-covered Vector c e f = e
vector-covered Parts c e f = absurd (cc)
vector-covered Matrix c e f = absurd (cc)
vector-covered Split c e f = absurd (cc)

pub alike-sorts : (s t : Sort) → (is_vector s && is_vector t) || (is_parts s && is_parts t) ≡ true → (s ≡ t) × (is_dense s ≡ true)
alike-sorts Vector Vector e = (refl, refl)
alike-sorts Vector Parts e = absurd (cc)
alike-sorts Vector Matrix e = absurd (cc)
alike-sorts Vector Split e = absurd (cc)
alike-sorts Parts Vector e = absurd (cc)
alike-sorts Parts Parts e = (refl, refl)
alike-sorts Parts Matrix e = absurd (cc)
alike-sorts Parts Split e = absurd (cc)
alike-sorts Matrix t e = absurd (cc)
alike-sorts Split t e = absurd (cc)

-- ---- tests

-- the sorts pass, and the maps
pub both-pass : (k : ℕ) (sorts maps : Bool) → Holds (λ t. (sorts ≡ true) × (maps ≡ true)) (passes k sorts maps)
both-pass k true true = (refl, refl)
both-pass k true false = tt
both-pass k false maps = tt

pub record CanMove (known : Known) (source m : ℕ) : Type 0 where
  pub sort : is_vector (sort_at known source) || is_matrix (sort_at known source) ≡ true
  pub size : are_same_size known (shape_at known source).rows m ≡ true
  pub serves : serves known (sort_at known source) m ≡ true
  pub covered : is_covered known source m ≡ true

pub move-passes : (known : Known) (k source m : ℕ) → Holds (λ t. CanMove known source m) (can_move known k source m)
move-passes known k source m =
    go (is_vector (sort_at known source) || is_matrix (sort_at known source)) (are_same_size known (shape_at known source).rows m)
    (serves known (sort_at known source) m) (is_covered known source m) (λ a b c d. record { sort = a; size = b; serves = c; covered = d })
  where
    go : (a b c d : Bool) {T : Type 0} → (a ≡ true → b ≡ true → c ≡ true → d ≡ true → T)
        → Holds {A = Unit {0}} (λ t. T) (cond a (cond b (cond c (cond d (Ok tt) (Err (NotCovered k))) (Err (BadMap (map_name known m)))) (Err (MapMismatch k))) (Err (WrongSort k)))
    go true true true true each = each refl refl refl refl
    go true true true false each = tt
    go true true false d each = tt
    go true false c d each = tt
    go false b c d each = tt

-- ---- the shapes of operands

-- what holds of known shapes holds of the job's
two : (P : Shape → Shape → Type 0) (s s' t t' : Shape) → s ≡ s' → t ≡ t' → P s t → P s' t'
two P s s' t t' e f h = subst (λ x. P x t') e (subst (P s) f h)

module _ (job : Job) (known : Known) (seen : IsSeen job known) where
  abbrev n : ℕ
  n = length known.values

  sort-seen : (v : ℕ) (sort : Sort) → v < n → sort_at known v ≡ sort → (shape job v).sort ≡ sort
  sort-seen v sort l e = subst (λ s. s.sort ≡ sort) (seen.shapes v l) e

  pub vector-seen : (v : ℕ) → v < n → is_vector (sort_at known v) ≡ true → IsEarlier job n v Vector
  vector-seen v l e = (l, sort-seen v Vector l (vector-sort _ e))

  pub parts-seen : (v : ℕ) → v < n → is_parts (sort_at known v) ≡ true → IsEarlier job n v Parts
  parts-seen v l e = (l, sort-seen v Parts l (parts-sort _ e))

  pub matrix-seen : (v : ℕ) → v < n → is_matrix (sort_at known v) ≡ true → IsEarlier job n v Matrix
  matrix-seen v l e = (l, sort-seen v Matrix l (matrix-sort _ e))

  pub split-seen : (v : ℕ) → v < n → is_split_sort (sort_at known v) ≡ true → IsEarlier job n v Split
  split-seen v l e = (l, sort-seen v Split l (split-sort _ e))

  pub rows-seen : (v w : ℕ) → v < n → w < n → have_same_rows known v w ≡ true → (shape job v).rows ≡ (shape job w).rows
  rows-seen v w l m e = two (λ s t. s.rows ≡ t.rows) _ _ _ _ (seen.shapes v l) (seen.shapes w m) (eqb-true _ _ e)

  pub columns-seen : (v w : ℕ) → v < n → w < n → have_same_columns known v w ≡ true → (shape job v).columns ≡ (shape job w).columns
  columns-seen v w l m e = two (λ s t. s.columns ≡ t.columns) _ _ _ _ (seen.shapes v l) (seen.shapes w m) (eqb-true _ _ e)

  pub domains-seen : (v w : ℕ) → v < n → w < n → ((shape_at known v).domain == (shape_at known w).domain) ≡ true → (shape job v).domain ≡ (shape job w).domain
  domains-seen v w l m e = two (λ s t. s.domain ≡ t.domain) _ _ _ _ (seen.shapes v l) (seen.shapes w m) (eqb-true _ _ e)

  pub domain-rows-seen : (v w : ℕ) → v < n → w < n → ((shape_at known v).domain == (shape_at known w).rows) ≡ true → (shape job v).domain ≡ (shape job w).rows
  domain-rows-seen v w l m e = two (λ s t. s.domain ≡ t.rows) _ _ _ _ (seen.shapes v l) (seen.shapes w m) (eqb-true _ _ e)

  pub row-sizes : (v w : ℕ) → v < n → w < n → are_same_size known (shape_at known v).rows (shape_at known w).rows ≡ true → AreSameSize job (shape job v).rows (shape job w).rows
  row-sizes v w l m e = two (λ s t. AreSameSize job s.rows t.rows) _ _ _ _ (seen.shapes v l) (seen.shapes w m) (same-size job known seen.maps _ _ e)

  pub domain-sizes : (v w : ℕ) → v < n → w < n → are_same_size known (shape_at known v).domain (shape_at known w).domain ≡ true → AreSameSize job (shape job v).domain (shape job w).domain
  domain-sizes v w l m e = two (λ s t. AreSameSize job s.domain t.domain) _ _ _ _ (seen.shapes v l) (seen.shapes w m) (same-size job known seen.maps _ _ e)

  pub alike-seen : (v w : ℕ) → v < n → w < n → are_alike known v w ≡ true → ((shape job v).sort ≡ (shape job w).sort) × (is_dense (shape job v).sort ≡ true)
  alike-seen v w l m e =
      two (λ s t. (s.sort ≡ t.sort) × (is_dense s.sort ≡ true)) _ _ _ _ (seen.shapes v l) (seen.shapes w m) (alike-sorts (sort_at known v) (sort_at known w) e)

  pub matrix-or-split-seen : (v : ℕ) → v < n → is_matrix (sort_at known v) || is_split_sort (sort_at known v) ≡ true → ((shape job v).sort ≡ Matrix) ⊎ ((shape job v).sort ≡ Split)
  matrix-or-split-seen v l e = subst (λ s. (s.sort ≡ Matrix) ⊎ (s.sort ≡ Split)) (seen.shapes v l) (matrix-or-split (sort_at known v) e)

  pub size-with : (v m : ℕ) → v < n → are_same_size known (shape_at known v).rows m ≡ true → AreSameSize job (shape job v).rows m
  size-with v m l e = subst (λ s. AreSameSize job s.rows m) (seen.shapes v l) (same-size job known seen.maps _ _ e)

  -- ---- single statements

  pub moved-seen : (source m : ℕ) → source < n → m < length known.maps → CanMove known source m
      → ((shape job source).sort ≡ Vector) ⊎ (((shape job source).sort ≡ Matrix) × IsTotal (layout_of job m))
  moved-seen source m l lm c =
      subst (λ s. (s.sort ≡ Vector) ⊎ ((s.sort ≡ Matrix) × IsTotal (layout_of job m))) (seen.shapes source l)
      (moved-sort (IsTotal (layout_of job m)) (sort_at known source) (is_total (layout_at known m)) c.sort
      ((and_parts (is_one_to_one (layout_at known m)) _ c.serves).1) (total-map job known seen.maps m lm))

  pub owner-seen : (source m : ℕ) → m < length known.maps → CanMove known source m → IsOwnerMap job m
  owner-seen source m lm c = owner-map job known seen.maps m lm ((and_parts (is_one_to_one (layout_at known m)) _ c.serves).0)

  pub covered-seen : (source m : ℕ) → source < n → m < length known.maps → CanMove known source m → (shape job source).sort ≡ Vector → IsCovered job m (shape job source).rows
  covered-seen source m l lm c =
      subst (λ s. s.sort ≡ Vector → IsCovered job m s.rows) (seen.shapes source l)
      (λ e. covered job known seen.maps (shape_at known source).rows m lm (vector-covered (sort_at known source) (covers (layout_at known (shape_at known source).rows) (layout_at known m)) c.covered e))

  pub operand-seen : (a x : ℕ) (transposed : Bool) → a < n → x < n → ((shape_at known x).rows == cond transposed (shape_at known a).rows (shape_at known a).domain) ≡ true
      → (shape job x).rows ≡ cond transposed (shape job a).rows (shape job a).domain
  operand-seen a x transposed l m e = two (λ s t. s.rows ≡ cond transposed t.rows t.domain) _ _ _ _ (seen.shapes x m) (seen.shapes a l) (eqb-true _ _ e)

  pub addend-seen : (a x : ℕ) (transposed : Bool) (y : Option ℕ) → IsBelowOrNone n y → is_vector_or_none known y ≡ true → is_addend known a x transposed y ≡ true
      → shape job n ≡ record (shape_at known x) { rows = map_of_y known a transposed } → IsAddend job n y
  addend-seen a x transposed None l e f made = tt
  addend-seen a x transposed (Some y) l e f made =
      let parts = and_parts _ _ f in (
        vector-seen y l e,
        two (λ s t. s.rows ≡ t.rows) _ _ _ _ (seen.shapes y l) (sym made) (eqb-true _ _ parts.0),
        two (λ s t. s.columns ≡ t.columns) _ _ _ _ (seen.shapes y l) (sym made) (sym (eqb-true _ _ parts.1)),
      )

  pub base-seen : (source : ℕ) (onto : Option ℕ) → source < n → IsBelowOrNone n onto → is_matrix_or_none known onto ≡ true → is_base known source onto ≡ true → IsBase job n source onto
  base-seen source None l m e f = tt
  base-seen source (Some onto) l m e f =
      let parts = and_parts _ _ f in
      (matrix-seen onto m e, sym (rows-seen source onto l m parts.0), sym (domains-seen source onto l m parts.1))
