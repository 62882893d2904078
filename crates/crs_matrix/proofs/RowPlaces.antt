-- The places of one row: what a search finds there, and what a new place does.
use Rattle.std.proofs.Common.{◌≡◌, ℕ, zero, suc, ◌+◌, ◌<◌, ◌≤◌, Bool, true, false, cond, eqb, List, [], ◌∷◌, length, get_or, Option, Some, None, Result, Ok, Err, IfOk, IfErr, refl, sym, ap, subst, ◌∙◌, arith, inl, inr}
use Rattle.std.specs.List.{insert}
use Rattle.std.specs.List.Sorted.{IsSearchInRange, IsBinarySearchResult, IsNonDecreasingBy}
use Rattle.std.specs.Ordering.{nat_cmp, ordering_index}
use Rattle.std.proofs.lemmas.Cmp.{ranked}
use Rattle.std.proofs.lemmas.List.{length-map}
use Rattle.std.proofs.lemmas.List.Sorted.{IsNonDecreasingBy-from_default}
use Rattle.std.proofs.lemmas.Bool.{cases_lt, eqb-true, eq-eqb, ne_eqb}
use Rattle.std.proofs.lemmas.Bool.Decides.{nat_tests}
use Rattle.std.proofs.Math.ListN.{get_or-map}
use Rattle.crs_graph.specs.Ascending.{with_index, IsAscending}
use Rattle.crs_graph.proofs.Ascending.{above_at, ascending_tail, ascending-with_index, rises, with_index-gap}
use Rattle.crs_matrix.specs.declared.places.Place.{Place}
use Rattle.crs_matrix.specs.Stored.{columns_at, no_place, AreWithin, IsGap, ArePlaced}

-- which number stands at a column
abbrev pub place_at : List Place → ℕ → Option ℕ
place_at [] j = None
place_at (p ∷ ps) j = cond (eqb p.col j) (Some p.at) (place_at ps j)

pub col-at : (ps : List Place) (i : ℕ) → get_or (columns_at ps) i 0 ≡ (get_or ps i no_place).col
col-at ps i = get_or-map (λ p. p.col) ps i no_place

pub length-columns : (ps : List Place) → length (columns_at ps) ≡ length ps
length-columns ps = length-map ps (λ p. p.col)

-- ---- a search

pub record IsPlaceSearch (ps : List Place) (col : ℕ) (r : Result ℕ ℕ) : Type 0 where
  pub found : IfOk r (λ i. (i < length ps) × ((get_or ps i no_place).col ≡ col))
  pub gap : IfErr r (λ i. (i ≤ length ps) × IsGap ps i col)

module _ (ps : List Place) (sorted : IsAscending (columns_at ps)) (col : ℕ) where
  columns_rise : (i j : ℕ) → i ≤ j → j < length ps → (get_or ps i no_place).col ≤ (get_or ps j no_place).col
  columns_rise i j le l = omega (arith, col-at ps i, col-at ps j, rises (columns_at ps) sorted i j le (omega (arith, length-columns ps)))

  comparisons_rise : IsNonDecreasingBy (λ p. ordering_index (nat_cmp p.col col)) ps
  comparisons_rise = IsNonDecreasingBy-from_default (λ p. ordering_index (nat_cmp p.col col)) ps no_place (λ i j le in_range.
      let keys_rise : (get_or ps i no_place).col ≤ (get_or ps j no_place).col = columns_rise i j le in_range in
      grind (arith, nat_tests))

  -- it ends at the column, or at the gap for it
  pub searched : (r : Result ℕ ℕ) → IsSearchInRange r (length ps) → IsBinarySearchResult (λ p. nat_cmp p.col col) ps r → IsPlaceSearch ps col r
  searched (Ok i) within equal = record { found = (within, ranked _ col _ (sym (equal no_place))); gap = tt }
  searched (Err i) within parted = record {
    found = tt;
    gap = (
      within,
      record {
        below = λ k lt. ranked _ col _ (sym ((parted comparisons_rise).0 k no_place (omega arith) lt));
        above = λ k le lt. ranked _ col _ (sym ((parted comparisons_rise).1 k no_place le lt));
      },
    );
  }

pub found-at : (ps : List Place) → IsAscending (columns_at ps) → (col i : ℕ) → i < length ps → (get_or ps i no_place).col ≡ col
    → place_at ps col ≡ Some (get_or ps i no_place).at
found-at [] h col i l at = absurd (omega arith)
found-at (p ∷ ps) h col zero l at = ap (λ b. cond b (Some p.at) (place_at ps col)) (eq-eqb p.col col at)
found-at (p ∷ ps) h col (suc i) l at =
    let below : p.col < get_or (columns_at ps) i 0 = above_at p.col (columns_at ps) h i (omega (arith, length-columns ps)) in
    ap (λ b. cond b (Some p.at) (place_at ps col)) (ne_eqb p.col col (λ e. absurd (omega (arith, col-at ps i))))
    ∙ found-at ps (ascending_tail p.col (columns_at ps) h) col i (omega arith) at

pub none-at : (ps : List Place) (col : ℕ) → ((k : ℕ) → k < length ps → (get_or ps k no_place).col ≡ col → ⊥) → place_at ps col ≡ None
none-at [] col h = refl
none-at (p ∷ ps) col h =
    ap (λ b. cond b (Some p.at) (place_at ps col)) (ne_eqb p.col col (h 0 (omega arith)))
    ∙ none-at ps col (λ k l. h (suc k) (omega arith))

pub gap-none : (ps : List Place) (i col : ℕ) → IsGap ps i col → place_at ps col ≡ None
gap-none ps i col gap = none-at ps col (λ k l e. elim (cases_lt k i) [
  | inl low ↦ let below = gap.below k low in absurd (omega arith)
  | inr high ↦ let above = gap.above k high l in absurd (omega arith)
])

-- ---- a new place

pub columns-insert : (ps : List Place) (i : ℕ) (e : Place) → i ≤ length ps → columns_at (insert ps i e) ≡ insert (columns_at ps) i e.col
columns-insert [] zero e l = refl
columns-insert [] (suc i) e l = absurd (omega arith)
columns-insert (p ∷ ps) zero e l = refl
columns-insert (p ∷ ps) (suc i) e l = ap (λ t. p.col ∷ t) (columns-insert ps i e (omega arith))

pub ascending-insert : (ps : List Place) (i : ℕ) (e : Place) → IsAscending (columns_at ps) → i ≤ length ps → IsGap ps i e.col → IsAscending (columns_at (insert ps i e))
ascending-insert ps i e h l gap =
    let placed : insert (columns_at ps) i e.col ≡ with_index (columns_at ps) e.col =
    with_index-gap (columns_at ps) e.col i (omega (arith, length-columns ps))
    (λ k lt. let low : (get_or ps k no_place).col < e.col = gap.below k lt in omega (arith, col-at ps k))
    (λ k le lt. let up : e.col < (get_or ps k no_place).col = gap.above k le (omega (arith, length-columns ps)) in omega (arith, col-at ps k)) in
    subst IsAscending (sym (columns-insert ps i e l ∙ placed)) (ascending-with_index (columns_at ps) h e.col)

both_tests : (a b : Bool) (x y : Option ℕ) (z : Option ℕ) → (a ≡ true → b ≡ true → ⊥) → cond a x (cond b y z) ≡ cond b y (cond a x z)
both_tests true true x y z h = absurd (h refl refl)
both_tests true false x y z h = refl
both_tests false b x y z h = refl

pub place_at-insert : (ps : List Place) (i : ℕ) (e : Place) (j : ℕ) → i ≤ length ps → ((k : ℕ) → k < i → (get_or ps k no_place).col < e.col)
    → place_at (insert ps i e) j ≡ cond (eqb e.col j) (Some e.at) (place_at ps j)
place_at-insert [] zero e j l below = refl
place_at-insert [] (suc i) e j l below = absurd (omega arith)
place_at-insert (p ∷ ps) zero e j l below = refl
place_at-insert (p ∷ ps) (suc i) e j l below =
    let first : p.col < e.col = below 0 (omega arith) in
    ap (cond (eqb p.col j) (Some p.at)) (place_at-insert ps i e j (omega arith) (λ k lt. below (suc k) (omega arith)))
    ∙ both_tests (eqb p.col j) (eqb e.col j) (Some p.at) (Some e.at) (place_at ps j) (λ a b.
    let same : p.col ≡ j = eqb-true p.col j a in
    let too : e.col ≡ j = eqb-true e.col j b in
    omega arith)

-- ---- which numbers the places name

pub ArePlaced-within : (owner : ℕ → ℕ × ℕ) (n l : ℕ) (ps : List Place) → ArePlaced owner n l ps → AreWithin n ps
ArePlaced-within owner n l [] h = tt
ArePlaced-within owner n l (p ∷ ps) h = (h.0, ArePlaced-within owner n l ps h.2)

pub within-at : (n : ℕ) (ps : List Place) → AreWithin n ps → (i : ℕ) → i < length ps → (get_or ps i no_place).at < n
within-at n [] h i l = absurd (omega arith)
within-at n (p ∷ ps) h zero l = h.0
within-at n (p ∷ ps) h (suc i) l = within-at n ps h.1 i (omega arith)

pub within-more : (n m : ℕ) (ps : List Place) → n ≤ m → AreWithin n ps → AreWithin m ps
within-more n m [] le h = tt
within-more n m (p ∷ ps) le h = (omega (arith, h.0), within-more n m ps le h.1)

-- a number has the row and the column at which it stands
pub placed-at : (owner : ℕ → ℕ × ℕ) (n l : ℕ) (ps : List Place) → ArePlaced owner n l ps → (j k : ℕ) → place_at ps j ≡ Some k → (k < n) × (owner k ≡ (l, j))
placed-at owner n l [] h j k e = absurd (cc)
placed-at owner n l (p ∷ ps) h j k e = go (eqb p.col j) refl e (placed-at owner n l ps h.2 j k)
  where
    go : (b : Bool) → eqb p.col j ≡ b → cond b (Some p.at) (place_at ps j) ≡ Some k → (place_at ps j ≡ Some k → (k < n) × (owner k ≡ (l, j))) → (k < n) × (owner k ≡ (l, j))
    go true t s more =
        let here : p.at ≡ k = cc in
        let col : p.col ≡ j = eqb-true p.col j t in
        let low : p.at < n = h.0 in
        (omega arith, ap owner (sym here) ∙ h.1 ∙ ap (λ c. (l, c)) col)
    go false t s more = more s

-- the number n stands at a new place
abbrev pub owner_with : (ℕ → ℕ × ℕ) → ℕ → ℕ × ℕ → ℕ → ℕ × ℕ
owner_with owner n at k = cond (eqb n k) at (owner k)

pub placed-more : (owner : ℕ → ℕ × ℕ) (n l : ℕ) (at : ℕ × ℕ) (ps : List Place) → ArePlaced owner n l ps → ArePlaced (owner_with owner n at) (n + 1) l ps
placed-more owner n l at [] h = tt
placed-more owner n l at (p ∷ ps) h =
    let low : p.at < n = h.0 in
    (omega arith, ap (λ b. cond b at (owner p.at)) (ne_eqb n p.at (λ e. absurd (omega arith))) ∙ h.1, placed-more owner n l at ps h.2)

pub placed-insert : (owner : ℕ → ℕ × ℕ) (n l : ℕ) (ps : List Place) (i : ℕ) (e : Place) → i ≤ length ps → ArePlaced owner n l ps → e.at < n → owner e.at ≡ (l, e.col) → ArePlaced owner n l (insert ps i e)
placed-insert owner n l [] zero e le h low is = (low, is, tt)
placed-insert owner n l [] (suc i) e le h low is = absurd (omega arith)
placed-insert owner n l (p ∷ ps) zero e le h low is = (low, is, h)
placed-insert owner n l (p ∷ ps) (suc i) e le h low is = (h.0, h.1, placed-insert owner n l ps i e (omega arith) h.2 low is)
