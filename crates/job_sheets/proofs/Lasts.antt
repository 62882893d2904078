-- Cells in order after other cells in order.
use Rattle.std.proofs.Common.{◌≡◌, ℕ, ◌-◌, ◌<◌, ◌⊎◌, inl, inr, Bool, true, false, not, List, [], ◌∷◌, ◌++◌, length, get_or, take, Option, None, Some, IfSome, refl, sym, ap, ◌∙◌, subst, append_assoc, arith}
use Rattle.std.specs.List.{list_all}
use Rattle.std.specs.Prelude.{nat_lt, ◌==◌, ◌||◌, ◌&&◌}
use Rattle.std.proofs.lemmas.Bool.{and_from}
use Rattle.tables.specs.declared.Cell.{Cell}
use Rattle.tables.specs.Tables.{stands_before, AreInOrder}
use Rattle.tables.proofs.Orders.{before-cases, before-to, before_all-trans, AreInOrder-append}
use Rattle.gathered_rows.specs.Sorting.{none_after}
use Rattle.gathered_rows.proofs.Lists.{front_and_last, list_all-both, list_all-weaker}
use Rattle.gathered_rows.proofs.Sorted.{AreSorted-from_order, none_after-front}
use Rattle.job_sheets.specs.Cells.{IsLast}

module _ {S : Type 0} where
  not_itself : (c : Cell S) → not (stands_before c c) ≡ true
  not_itself c = go (stands_before c c) refl
    where
      before : (c.row < c.row) ⊎ ((c.row ≡ c.row) × (c.col < c.col)) → ⊥
      before (inl l) = omega arith
      before (inr l) = let m = l.1 in omega arith

      go : (b : Bool) → stands_before c c ≡ b → not b ≡ true
      go true e = absurd (before (before-to c c e))
      go false e = refl

  -- what stands before the first of cells in order stands before all of them
  pub before-first : (c f : Cell S) (cells : List (Cell S)) → 0 < length cells → f ≡ get_or cells 0 f → AreInOrder cells → stands_before c f ≡ true → list_all (stands_before c) cells ≡ true
  before-first c f [] some is o e = refl
  before-first c f (d ∷ ds) some is o e =
      let first : stands_before c d ≡ true = sym (ap (stands_before c) is) ∙ e in
      and_from (stands_before c d) (list_all (stands_before c) ds) first (before_all-trans c d ds first o.0)

  -- a cell that is not after c stands before all that c stands before
  before-reached : (c x : Cell S) (ys : List (Cell S)) → list_all (stands_before c) ys ≡ true → not (stands_before c x) ≡ true → list_all (stands_before x) ys ≡ true
  before-reached c x ys h last = go (before-cases c x)
    where
      go : (stands_before c x ≡ true) ⊎ ((stands_before x c ≡ true) ⊎ ((c.row ≡ x.row) × (c.col ≡ x.col))) → list_all (stands_before x) ys ≡ true
      go (inl l) = let turned : not (stands_before c x) ≡ false = ap not l in absurd (cc)
      go (inr (inl l)) = before_all-trans x c ys l h
      go (inr (inr p)) = sym (λ t. list_all (λ y. nat_lt (p.0 t) y.row || ((p.0 t == y.row) && nat_lt (p.1 t) y.col)) ys) ∙ h

  -- cells in order that stand after the last one of cells in order
  pub order-next : (xs ys : List (Cell S)) (last : Option (Cell S)) → IsLast xs last → AreInOrder xs → AreInOrder ys → IfSome last (λ c. list_all (stands_before c) ys ≡ true) → AreInOrder (xs ++ ys)
  order-next xs ys None end o p h = subst (λ zs. AreInOrder (zs ++ ys)) (sym end) p
  order-next xs ys (Some c) end o p h =
      AreInOrder-append xs ys o p (list_all-weaker (λ d. not (stands_before c d)) (λ d. list_all (stands_before d) ys) (λ d e. before-reached c d ys h e) xs end)

  -- the last one of cells is the last one, too, where cells in order stand before them
  pub last-next : (before cells : List (Cell S)) (n : ℕ) (c : Cell S) → 0 < n → length cells ≡ n → c ≡ get_or cells (n - 1) c → AreInOrder (before ++ cells) → none_after c (before ++ cells) ≡ true
  last-next before cells n c some long is o =
      let e : before ++ cells ≡ (before ++ take (n - 1) cells) ++ c ∷ [] = ap (λ zs. before ++ zs) (front_and_last cells n c some long is) ∙ sym (append_assoc before (take (n - 1) cells) (c ∷ [])) in
      ap (none_after c) e
      ∙ list_all-both (λ d. not (stands_before c d)) (before ++ take (n - 1) cells) (c ∷ [])
      (none_after-front (before ++ take (n - 1) cells) c [] (AreSorted-from_order ((before ++ take (n - 1) cells) ++ c ∷ []) (subst AreInOrder e o)))
      (and_from (not (stands_before c c)) true (not_itself c) refl)

  -- the same of the cells that were read
  pub after-next : (last : Option (Cell S)) (read cells : List (Cell S)) → read ≡ cells → IfSome last (λ c. list_all (stands_before c) read ≡ true) → IfSome last (λ c. list_all (stands_before c) cells ≡ true)
  after-next last read cells e h = subst (λ ds. IfSome last (λ c. list_all (stands_before c) ds ≡ true)) e h

  pub next-last : (before read cells : List (Cell S)) (result : Option (Cell S)) → read ≡ cells → (AreInOrder (before ++ read) → IsLast (before ++ read) result) → AreInOrder (before ++ cells) → IsLast (before ++ cells) result
  next-last before read cells result e h o = subst (λ ds. AreInOrder (before ++ ds) → IsLast (before ++ ds) result) e h o
