-- Sums of cells, as cells come.
use Rattle.std.proofs.Common.{◌≡◌, ℕ, ◌<◌, ◌+◌, ◌-◌, length, get_or, set, take, subst, Bool, true, false, not, cond, eqb, ltb, ◌||◌, ◌&&◌, List, [], ◌∷◌, ◌++◌, Some, None, refl, sym, ap, ◌∙◌}
use Rattle.std.specs.List.{list_all}
use Rattle.std.specs.List.Sorted.{IsPermutation}
use Rattle.std.proofs.lemmas.Bool.{and_parts}
use Rattle.std.proofs.lemmas.List.{append_assoc, take_more}
use Rattle.scalar_laws.specs.Semiring.{Semiring, IsSemiring}
use Rattle.tables.specs.declared.Cell.{Cell}
use Rattle.tables.specs.Sums.{IsJoining, if_there, both_or_one}
use Rattle.tables.specs.Tables.{names, part_at, table_of, stands_before, AreInOrder}
use Rattle.tables.proofs.Sums.{places-IsJoining, total-push}
use Rattle.tables.proofs.Tables.{table_of-append, table_of-IsPermutation}
use Rattle.tables.proofs.Edits.{AreInOrder-push}
use Rattle.gathered_rows.specs.Sorting.{none_after, AreSums}
use Rattle.gathered_rows.proofs.Lists.{front_and_last, set-last, set-last_same, list_all-both, list_all-parts, list_all-IsPermutation}
use Rattle.gathered_rows.proofs.Sorted.{all_before, before-from_place}

module _ {S : Type 0} {R : Semiring S} where
  -- Cells in order are their own sums.
  pub AreSums-own : (cells : List (Cell S)) → AreInOrder cells → AreSums R cells cells
  AreSums-own cells h = record { in_order = h; matrix = refl; places = λ test e. e }

  -- What does not stand after a cell has no sum after it.
  pub AreSums-none_after : (c : Cell S) {cells sums : List (Cell S)} → AreSums R cells sums → none_after c cells ≡ true → none_after c sums ≡ true
  AreSums-none_after c f h = f.places (λ i j. not (ltb c.row i || (eqb c.row i && ltb c.col j))) h

  -- A cell at a new place, after the last one, which is written back as it was.
  pub AreSums-place : (xs ys : List (Cell S)) (n : ℕ) (l c : Cell S) → 0 < n → length xs ≡ n → l ≡ get_or xs (n - 1) l → ys ≡ set xs (n - 1) l
      → AreInOrder xs → none_after c xs ≡ true → (l.row ≡ c.row → l.col ≡ c.col → ⊥) → AreSums R (xs ++ c ∷ []) (ys ++ c ∷ [])
  AreSums-place xs ys n l c some long is kept h last apart =
      let e = front_and_last xs n l some long is in
      let parts = list_all-parts (λ d. not (stands_before c d)) (take (n - 1) xs) (l ∷ []) (ap (none_after c) (sym e) ∙ last) in
      let first = and_parts (not (stands_before c l)) true parts.1 in
      let before = all_before (take (n - 1) xs) l c (subst AreInOrder e h) (before-from_place l c first.0 apart) in
      subst (λ zs. AreSums R (xs ++ c ∷ []) (zs ++ c ∷ [])) (sym (kept ∙ set-last_same xs n l some long is))
      (AreSums-own (xs ++ c ∷ []) (AreInOrder-push xs c h (ap (list_all (λ x. stands_before x c)) e ∙ before)))

module _ {S : Type 0} where
  -- A cell with another number, at the same place.
  abbrev pub with_number : Cell S → S → Cell S
  with_number c v = record { row = c.row; col = c.col; value = v }

  in_order-place : (front : List (Cell S)) (l : Cell S) (v : S) → AreInOrder (front ++ l ∷ []) → AreInOrder (front ++ with_number l v ∷ [])
  in_order-place [] l v h = h
  in_order-place (x ∷ xs) l v h =
      let parts = list_all-parts (stands_before x) xs (l ∷ []) h.0 in
      (list_all-both (stands_before x) xs (with_number l v ∷ []) parts.0 parts.1, in_order-place xs l v h.1)

module _ {S : Type 0} {R : Semiring S} (L : IsSemiring R) where
  J : IsJoining (if_there R.plus)
  J = places-IsJoining L

  -- Two cells at one place are one with the sum.
  part_at-sum : (l c : Cell S) → l.row ≡ c.row → l.col ≡ c.col → (i j : ℕ) → part_at i j (with_number l (R.plus l.value c.value)) ≡ both_or_one R.plus (part_at i j l) (part_at i j c)
  part_at-sum l c p q i j =
      go (names i j l)
      ∙ ap (λ b. both_or_one R.plus (part_at i j l) (cond b (Some c.value) None)) (λ t. eqb (p t) i && eqb (q t) j)
    where
      go : (b : Bool) → cond b (Some (R.plus l.value c.value)) None ≡ both_or_one R.plus (cond b (Some l.value) None) (cond b (Some c.value) None)
      go true = refl
      go false = refl

  -- The last cell takes the number of one at its place.
  pub AreSums-last : (front : List (Cell S)) (l c : Cell S) → l.row ≡ c.row → l.col ≡ c.col → AreInOrder (front ++ l ∷ [])
      → AreSums R ((front ++ l ∷ []) ++ c ∷ []) (front ++ with_number l (R.plus l.value c.value) ∷ [])
  AreSums-last front l c p q h = record {
    in_order = in_order-place front l (R.plus l.value c.value) h;
    matrix = λ t i j. same i j t;
    places = λ test e.
        let both = list_all-parts (λ d. test d.row d.col) (front ++ l ∷ []) (c ∷ []) e in
        let parts = list_all-parts (λ d. test d.row d.col) front (l ∷ []) both.0 in
        list_all-both (λ d. test d.row d.col) front _ parts.0 parts.1;
  }
    where
      same : (i j : ℕ) → table_of R (front ++ with_number l (R.plus l.value c.value) ∷ []) i j ≡ table_of R ((front ++ l ∷ []) ++ c ∷ []) i j
      same i j =
          total-push J (part_at i j) front _
          ∙ ap (both_or_one R.plus (table_of R front i j)) (part_at-sum l c p q i j)
          ∙ sym (J.assoc (table_of R front i j) (part_at i j l) (part_at i j c))
          ∙ ap (λ v. both_or_one R.plus v (part_at i j c)) (sym (total-push J (part_at i j) front l))
          ∙ sym (total-push J (part_at i j) (front ++ l ∷ []) c)

  pub AreSums-same : (xs : List (Cell S)) (n : ℕ) (l c : Cell S) → 0 < n → length xs ≡ n → l ≡ get_or xs (n - 1) l → AreInOrder xs
      → l.row ≡ c.row → l.col ≡ c.col → AreSums R (xs ++ c ∷ []) (set xs (n - 1) (with_number l (R.plus l.value c.value)))
  AreSums-same xs n l c some long is h p q =
      let e = front_and_last xs n l some long is in
      subst (AreSums R (xs ++ c ∷ [])) (sym (set-last xs n _ some long))
      (subst (λ ys. AreSums R (ys ++ c ∷ []) (take (n - 1) xs ++ with_number l (R.plus l.value c.value) ∷ [])) (sym e)
      (AreSums-last (take (n - 1) xs) l c p q (subst AreInOrder e h)))

  -- Sums to which more cells are added.
  pub AreSums-append : (cells more sums new : List (Cell S)) → AreSums R cells sums → AreSums R (sums ++ more) new → AreSums R (cells ++ more) new
  AreSums-append cells more sums new f g = record {
    in_order = g.in_order;
    matrix = g.matrix ∙ (λ t i j. (table_of-append L sums more i j ∙ ap (λ v. both_or_one R.plus v (table_of R more i j)) (λ s. f.matrix s i j) ∙ sym (table_of-append L cells more i j)) t);
    places = λ test e.
        let both = list_all-parts (λ d. test d.row d.col) cells more e in
        g.places test (list_all-both (λ d. test d.row d.col) sums more (f.places test both.0) both.1);
  }

  -- Sums of the same cells in another order.
  pub AreSums-IsPermutation : (cells xs ys sums : List (Cell S)) → IsPermutation xs ys → AreSums R (cells ++ ys) sums → AreSums R (cells ++ xs) sums
  AreSums-IsPermutation cells xs ys sums h f = record {
    in_order = f.in_order;
    matrix = f.matrix ∙ (λ t i j. (table_of-append L cells ys i j ∙ ap (λ v. both_or_one R.plus (table_of R cells i j) v) (λ s. table_of-IsPermutation L xs ys h s i j) ∙ sym (table_of-append L cells xs i j)) t);
    places = λ test e.
        let both = list_all-parts (λ d. test d.row d.col) cells xs e in
        f.places test (list_all-both (λ d. test d.row d.col) cells ys both.0 (list_all-IsPermutation (λ d. test d.row d.col) xs ys h ∙ both.1));
  }

  -- One more cell of a list, where c stands at place i.
  pub AreSums-more : (xs ys : List (Cell S)) (i : ℕ) (c : Cell S) (sums new : List (Cell S)) → i < length ys → c ≡ get_or ys i c
      → AreSums R (xs ++ take i ys) sums → AreSums R (sums ++ c ∷ []) new → AreSums R (xs ++ take (i + 1) ys) new
  AreSums-more xs ys i c sums new within is f g =
      let more : take (i + 1) ys ≡ take i ys ++ c ∷ [] = take_more ys i c within ∙ ap (λ d. take i ys ++ d ∷ []) (sym is) in
      subst (λ zs. AreSums R zs new) (append_assoc xs (take i ys) (c ∷ []) ∙ ap (λ zs. xs ++ zs) (sym more)) (AreSums-append (xs ++ take i ys) (c ∷ []) sums new f g)
