-- Tests of layouts against what they say.
use Rattle.std.proofs.Common.{◌≡◌, ◌==◌, slice_get, Some, ℕ, zero, suc, ◌+◌, ◌<◌, ◌≤◌, Bool, true, false, not, cond, ◌||◌, ◌&&◌, List, [], ◌∷◌, ◌++◌, length, take, drop, get_or, refl, ap, sym, ◌∙◌, subst, arith, inl, inr, add-one, drop-cons, length-append}
use Rattle.std.proofs.lemmas.Bool.{cases_Bool, cases_lt, and_parts, false≢true}
use Rattle.std.proofs.lemmas.Bool.Decides.{Decides-and, same_from_decides, nat_tests}
use Rattle.std.specs.Bool.{Decides}
use Rattle.std.specs.List.{concat, list_all}
use Rattle.tables.specs.Indices.{stands, count_from, AreDistinct}
use Rattle.tables.proofs.Counting.{stands-append}
use Rattle.map_core.proofs.Members.{stands-concat}
use Rattle.map_core.specs.Layouts.{Layout, IsLayout, IsOneToOne, IsTotal, rank_list}
use Rattle.job_text.specs.Layouts.{are_distinct, is_one_to_one, is_total, covers}

not_decides : (b : Bool) → Decides (not b) (b ≡ false)
not_decides true = (λ e. absurd (cc), λ e. absurd (cc))
not_decides false = (λ _. refl, λ _. refl)

pub distinct_decides : (xs : List ℕ) → Decides (are_distinct xs) (AreDistinct xs)
distinct_decides [] = (λ _. tt, λ _. refl)
distinct_decides (x ∷ xs) = Decides-and (not (stands x xs)) (are_distinct xs) (not_decides (stands x xs)) (distinct_decides xs)

pub both : (a b : Bool) → a ≡ true → b ≡ true → (a && b) ≡ true
both a b e e' = cc

-- each number from a on, k of them
module _ (p : ℕ → Bool) (a k : ℕ) (rest : Decides (list_all p (count_from (a + 1) k)) ((g : ℕ) → a + 1 ≤ g → g < a + 1 + k → p g ≡ true)) where
  each_to : (p a && list_all p (count_from (a + 1) k)) ≡ true → (g : ℕ) → a ≤ g → g < a + suc k → p g ≡ true
  each_to e g l h = elim (cases_lt a g) [
    | inl later ↦ rest.0 ((and_parts _ _ e).1) g (omega arith) (omega arith)
    | inr here ↦ let same : a ≡ g = omega arith in subst (λ x. p x ≡ true) same ((and_parts _ _ e).0)
  ]

  each_from : ((g : ℕ) → a ≤ g → g < a + suc k → p g ≡ true) → (p a && list_all p (count_from (a + 1) k)) ≡ true
  each_from each = both _ _ (each a (omega arith) (omega arith)) (rest.1 (λ g l h. each g (omega arith) (omega arith)))

pub all_from : (p : ℕ → Bool) (a k : ℕ) → Decides (list_all p (count_from a k)) ((g : ℕ) → a ≤ g → g < a + k → p g ≡ true)
all_from p a zero = (λ _ g l h. absurd (omega arith), λ _. refl)
all_from p a (suc k) = (each_to p a k (all_from p (a + 1) k), each_from p a k (all_from p (a + 1) k))

pub total_decides : (m : Layout) → Decides (is_total m) (IsTotal m)
total_decides m =
    let d = all_from (λ g. stands g (concat m.lists)) 0 m.size in
    (λ e g h. d.0 e g (omega arith) (omega arith), λ each. d.1 (λ g l h. each g (omega arith)))

pub one_to_one_decides : (m : Layout) → Decides (is_one_to_one m) (IsOneToOne m)
one_to_one_decides m = distinct_decides (concat m.lists)

-- one list more
pub concat_rest : (ls : List (List ℕ)) (i : ℕ) → i < length ls → concat (drop i ls) ≡ get_or ls i [] ++ concat (drop (i + 1) ls)
concat_rest ls i h = rw (add-one, drop-cons ls i []) refl

pub count_rest : (ls : List (List ℕ)) (i n : ℕ) → i < length ls → n + length (concat (drop i ls)) ≡ (n + length (get_or ls i [])) + length (concat (drop (i + 1) ls))
count_rest ls i n h = omega (arith, ap length (concat_rest ls i h), length-append (get_or ls i []) (concat (drop (i + 1) ls)))

pub stands_rest : (g : ℕ) (ls : List (List ℕ)) (i : ℕ) → i < length ls → stands g (concat (drop i ls)) ≡ (stands g (get_or ls i []) || stands g (concat (drop (i + 1) ls)))
stands_rest g ls i h = ap (stands g) (concat_rest ls i h) ∙ stands-append g (get_or ls i []) (concat (drop (i + 1) ls))

-- an index of one list stands in all of them
pub stands_in_one : (g : ℕ) (ls : List (List ℕ)) (k : ℕ) → stands g (get_or ls k []) ≡ true → stands g (concat ls) ≡ true
stands_in_one g ls k s = stands-concat g ls k s

-- what holds of each index of a list, and of lists
pub all_stand : (p : ℕ → Bool) (xs : List ℕ) → list_all p xs ≡ true → (g : ℕ) → stands g xs ≡ true → p g ≡ true
all_stand p [] e g s = absurd (cc)
all_stand p (x ∷ xs) e g s =
    elim (cases_Bool (x == g)) [
      | inl here ↦ let same : x ≡ g = grind (arith, nat_tests) in subst (λ y. p y ≡ true) same ((and_parts _ _ e).0)
      | inr other ↦ all_stand p xs ((and_parts _ _ e).1) g (sym (ap (λ b. b || stands g xs) other) ∙ s)
    ]

pub stand_all : (p : ℕ → Bool) (xs : List ℕ) → ((g : ℕ) → stands g xs ≡ true → p g ≡ true) → list_all p xs ≡ true
stand_all p [] each = refl
stand_all p (x ∷ xs) each =
    let same : (x == x) ≡ true = grind (arith, nat_tests) in
    both _ _ (each x (ap (λ b. b || stands x xs) same))
    (stand_all p xs (λ g s. each g (rw s (elim (cases_Bool (x == g)) [ inl e ↦ rw e refl | inr e ↦ rw e refl ]))))

pub all_lists : (p : ℕ → Bool) (ls : List (List ℕ)) → ((k g : ℕ) → stands g (get_or ls k []) ≡ true → p g ≡ true) → list_all (λ list. list_all p list) ls ≡ true
all_lists p [] each = refl
all_lists p (l ∷ ls) each = both _ _ (stand_all p l (each 0)) (all_lists p ls (λ k. each (suc k)))

pub lists_all : (p : ℕ → Bool) (ls : List (List ℕ)) → list_all (λ list. list_all p list) ls ≡ true → (g : ℕ) → stands g (concat ls) ≡ true → p g ≡ true
lists_all p [] e g s = absurd (cc)
lists_all p (l ∷ ls) e g s =
    elim (cases_Bool (stands g l)) [
      | inl here ↦ all_stand p l ((and_parts _ _ e).0) g here
      | inr other ↦ lists_all p ls ((and_parts _ _ e).1) g (sym (ap (λ b. b || stands g (concat ls)) other) ∙ sym (stands-append g l (concat ls)) ∙ s)
    ]

-- of two layouts of one size: a total one covers the other, and only a total one covers a total one
pub total_covers : (wide narrow : Layout) → wide.size ≡ narrow.size → IsLayout narrow → is_total wide ≡ true → covers wide narrow ≡ true
total_covers wide narrow same layout total =
    all_lists (λ g. stands g (concat wide.lists)) narrow.lists
    (λ k g s. (total_decides wide).0 total g (let below : g < narrow.size = layout.below k g s in omega arith))

pub covers_total : (wide narrow : Layout) → wide.size ≡ narrow.size → is_total wide ≡ false → is_total narrow ≡ true → covers wide narrow ≡ false
covers_total wide narrow same less total =
    elim (cases_Bool (covers wide narrow)) [
      | inl all ↦ absurd (false≢true (sym less ∙ (total_decides wide).1 (λ g h.
          lists_all (λ x. stands x (concat wide.lists)) narrow.lists all g ((total_decides narrow).0 total g (omega arith)))))
      | inr none ↦ none
    ]

-- a layout without lists has no index
pub none_covered : (ls : List (List ℕ)) → (length (concat ls) == 0) ≡ list_all (λ list. list_all (λ g. stands g []) list) ls
none_covered [] = refl
none_covered ([] ∷ ls) = none_covered ls
none_covered ((g ∷ l) ∷ ls) = grind (arith, nat_tests)
