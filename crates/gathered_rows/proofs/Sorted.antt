-- Cells that ascend by row and then column.
use Rattle.std.proofs.Common.{◌≡◌, ℕ, suc, ◌+◌, ◌<◌, ◌≤◌, ◌⊎◌, inl, inr, Bool, true, false, not, cond, eqb, ltb, ◌||◌, ◌&&◌, List, [], ◌∷◌, ◌++◌, length, get_or, take, drop, refl, subst, sym, ap, ◌∙◌, arith}
use Rattle.std.specs.List.{list_all}
use Rattle.std.specs.declared.cmp.Ordering.{Ordering}
use Rattle.std.specs.declared.cmp.Ordering.TheVariants.{Less, Equal, Greater}
use Rattle.std.specs.Ordering.{is_lt, nat_cmp, ordering_then}
use Rattle.std.specs.Cmp.{IsTotalOrder, nat_cmp_total, then_total, on_total}
use Rattle.std.specs.List.Sorted.{IsSortedByKey}
use Rattle.std.proofs.lemmas.Bool.{and_parts, and_from}
use Rattle.std.proofs.lemmas.List.Sorted.{sorted_far, ranks_by}
use Rattle.std.proofs.lemmas.List.{append_assoc, drop_more, take-append-drop}
use Rattle.tables.specs.declared.Cell.{Cell}
use Rattle.tables.specs.Tables.{stands_before, AreInOrder}
use Rattle.tables.proofs.Orders.{before-to, before-trans, before-cases}
use Rattle.gathered_rows.specs.Sorting.{none_after, AreSorted}
use Rattle.gathered_rows.proofs.Lists.{list_all-both, list_all-parts, list_all-weaker, list_all-from_get_or}

module _ {S : Type 0} where
  -- Cells of which no later one stands before an earlier one.
  pub AreSorted-from_pairs : (cells : List (Cell S)) → ((i j : ℕ) (d : Cell S) → i ≤ j → j < length cells → stands_before (get_or cells j d) (get_or cells i d) ≡ false) → AreSorted cells
  AreSorted-from_pairs [] h = tt
  AreSorted-from_pairs (c ∷ cs) h = (
    list_all-from_get_or (λ d. not (stands_before d c)) cs c (λ k l. ap not (h 0 (suc k) c (omega arith) (omega arith))),
    AreSorted-from_pairs cs (λ i j d p q. h (suc i) (suc j) d (omega arith) (omega arith)),
  )

  -- No cell of the front stands after the next one.
  pub none_after-front : (xs : List (Cell S)) (c : Cell S) (ys : List (Cell S)) → AreSorted (xs ++ c ∷ ys) → none_after c xs ≡ true
  none_after-front [] c ys h = refl
  none_after-front (x ∷ xs) c ys h =
      let parts = list_all-parts (λ d. not (stands_before d x)) xs (c ∷ ys) h.0 in
      let first = and_parts (not (stands_before c x)) _ parts.1 in
      and_from _ _ first.0 (none_after-front xs c ys h.1)

  -- The same before place i of a list that comes after another one.
  pub none_after-at : (xs ys : List (Cell S)) (i : ℕ) (c : Cell S) → i < length ys → c ≡ get_or ys i c → AreSorted (xs ++ ys) → none_after c (xs ++ take i ys) ≡ true
  none_after-at xs ys i c within is h =
      let parted : ys ≡ take i ys ++ c ∷ drop (i + 1) ys = sym (take-append-drop i ys) ∙ ap (λ zs. take i ys ++ zs) (drop_more ys i c within) ∙ ap (λ d. take i ys ++ d ∷ drop (i + 1) ys) (sym is) in
      none_after-front (xs ++ take i ys) c (drop (i + 1) ys) (subst AreSorted (ap (λ zs. xs ++ zs) parted ∙ sym (append_assoc xs (take i ys) (c ∷ drop (i + 1) ys))) h)

  irreflexive : (c : Cell S) → stands_before c c ≡ true → ⊥
  irreflexive c h = go (before-to c c h)
    where
      go : (c.row < c.row) ⊎ ((c.row ≡ c.row) × (c.col < c.col)) → ⊥
      go (inl l) = omega arith
      go (inr l) = let m = l.1 in omega arith

  -- One that stands before another does not stand after it.
  pub not_after : (c d : Cell S) → stands_before c d ≡ true → not (stands_before d c) ≡ true
  not_after c d h = go (stands_before d c) refl
    where
      go : (b : Bool) → stands_before d c ≡ b → not b ≡ true
      go true e = absurd (irreflexive c (before-trans c d c h e))
      go false e = refl

  pub AreSorted-from_order : (cells : List (Cell S)) → AreInOrder cells → AreSorted cells
  AreSorted-from_order [] h = tt
  AreSorted-from_order (c ∷ cs) h = (list_all-weaker (stands_before c) (λ d. not (stands_before d c)) (λ d e. not_after c d e) cs h.0, AreSorted-from_order cs h.1)

  -- Sorted cells, and then sorted cells of which none stands before one of the former.
  pub AreSorted-append : (xs ys : List (Cell S)) → AreSorted xs → AreSorted ys → list_all (λ c. list_all (λ d. not (stands_before d c)) ys) xs ≡ true → AreSorted (xs ++ ys)
  AreSorted-append [] ys p q h = q
  AreSorted-append (x ∷ xs) ys p q h =
      let both = and_parts (list_all (λ d. not (stands_before d x)) ys) _ h in
      (list_all-both (λ d. not (stands_before d x)) xs ys p.0 both.0, AreSorted-append xs ys p.1 q both.1)

  -- A cell that is not after another and at another place stands before it.
  pub before-from_place : (c d : Cell S) → not (stands_before d c) ≡ true → (c.row ≡ d.row → c.col ≡ d.col → ⊥) → stands_before c d ≡ true
  before-from_place c d h apart = go (before-cases c d)
    where
      go : (stands_before c d ≡ true) ⊎ ((stands_before d c ≡ true) ⊎ ((c.row ≡ d.row) × (c.col ≡ d.col))) → stands_before c d ≡ true
      go (inl l) = l
      go (inr (inl l)) = let turned : not (stands_before d c) ≡ false = ap not l in cc
      go (inr (inr p)) = absurd (apart p.0 p.1)

  -- All cells in order stand before what the last one stands before.
  pub all_before : (front : List (Cell S)) (l c : Cell S) → AreInOrder (front ++ l ∷ []) → stands_before l c ≡ true → list_all (λ x. stands_before x c) (front ++ l ∷ []) ≡ true
  all_before [] l c h e = and_from _ _ e refl
  all_before (x ∷ xs) l c h e =
      let parts = list_all-parts (stands_before x) xs (l ∷ []) h.0 in
      let first = and_parts (stands_before x l) true parts.1 in
      and_from _ _ (before-trans x l c first.0 e) (all_before xs l c h.1 e)

-- The order of pairs of numbers is that of places.
pub pairs_before : (a b x y : ℕ) → is_lt (ordering_then (nat_cmp a x) (nat_cmp b y)) ≡ (ltb a x || (eqb a x && ltb b y))
pairs_before a b x y = go (ltb a x) (eqb a x) (ltb b y) (eqb b y)
  where
    go : (l e m f : Bool) → is_lt (ordering_then (cond l Less (cond e Equal Greater)) (cond m Less (cond f Equal Greater))) ≡ (l || (e && m))
    go true e m f = refl
    go false true true f = refl
    go false true false true = refl
    go false true false false = refl
    go false false m f = refl

-- The order of pairs: by the first number, then by the second.
abbrev pub pair_order : (ℕ × ℕ) → (ℕ × ℕ) → Ordering
pair_order p q = ordering_then (nat_cmp p.0 q.0) (nat_cmp p.1 q.1)

pair_order-total : IsTotalOrder pair_order
pair_order-total = then_total (on_total (λ (t : ℕ × ℕ). t.0) nat_cmp_total) (on_total (λ (t : ℕ × ℕ). t.1) nat_cmp_total)

-- What a sort by the pair of row and column leaves.
pub AreSorted-from_keys : {S : Type 0} (cells : List (Cell S)) → IsSortedByKey {K = ℕ × ℕ} (λ c. (c.row, c.col)) pair_order cells → AreSorted cells
AreSorted-from_keys {S} cells h = AreSorted-from_pairs cells (λ i j d p q. sym (pairs_before (get_or cells j d).row (get_or cells j d).col (get_or cells i d).row (get_or cells i d).col) ∙ sorted_far _ (ranks_by pair_order-total place) cells h i j d p q)
  where
    place : Cell S → ℕ × ℕ
    place c = (c.row, c.col)
