-- The classes of the positions of a list.
use Rattle.std.proofs.Common.{◌≡◌, ◌≢◌, ℕ, zero, suc, ◌+◌, ◌<◌, ◌≤◌, Bool, true, false, ◌||◌, ◌==◌, not, if◌then◌else◌, List, [], ◌∷◌, ◌++◌, length, Option, None, Some, slice_get, nat_eq, inl, inr, refl, sym, ap, ◌∙◌, arith, zero-add}
use Rattle.std.specs.List.{filter, range_with_len}
use Rattle.std.proofs.lemmas.Bool.{cases_Bool, cases_eq, eq-eqb, ne_eqb}
use Rattle.std.proofs.lemmas.List.Elements.{filter-append}
use Rattle.std.specs.Option.{option_eq}
use Rattle.map_core.specs.Layouts.{stands}
use Rattle.map_core.specs.Classes.{index_at, same_count}
use Rattle.map_core.proofs.Runs.{run-push}

-- what the count of same positions is where the first indices are the same, and where they are not
same_first : (x y : ℕ) (xs ys : List ℕ) → x ≡ y → same_count (x ∷ xs) (y ∷ ys) ≡ suc (same_count xs ys)
same_first x y xs ys e = ap (λ b. if b then suc (same_count xs ys) else 0) (eq-eqb x y e)

other_first : (x y : ℕ) (xs ys : List ℕ) → x ≢ y → same_count (x ∷ xs) (y ∷ ys) ≡ 0
other_first x y xs ys e = ap (λ b. if b then suc (same_count xs ys) else 0) (ne_eqb x y e)

-- lists that agree at n positions, and not at the next one if both have it
pub same_count-is : (xs ys : List ℕ) (n : ℕ) → n ≤ length xs → n ≤ length ys → ((k : ℕ) → k < n → slice_get xs k ≡ slice_get ys k)
    → (n < length xs → n < length ys → slice_get xs n ≢ slice_get ys n) → same_count xs ys ≡ n
same_count-is [] ys n one two agree stop = omega arith
same_count-is (x ∷ xs) [] n one two agree stop = omega arith
same_count-is (x ∷ xs) (y ∷ ys) zero one two agree stop = other_first x y xs ys (λ e. stop (omega arith) (omega arith) (ap Some e))
same_count-is (x ∷ xs) (y ∷ ys) (suc n) one two agree stop =
    let first : Some x ≡ Some y = agree 0 (omega arith) in
    let same : x ≡ y = cc in
    same_first x y xs ys same
    ∙ ap suc (same_count-is xs ys n (omega arith) (omega arith) (λ k h. agree (suc k) (omega arith)) (λ h i. stop (omega arith) (omega arith)))

-- a leading position at which both lists agree
pub record IsSame (xs ys : List ℕ) (l : ℕ) : Type 0 where
  pub first : l < length xs
  pub second : l < length ys
  pub index : index_at xs l ≡ index_at ys l

pub same_count-same : (xs ys : List ℕ) (l : ℕ) → l < same_count xs ys → IsSame xs ys l
same_count-same [] ys l h = absurd (omega arith)
same_count-same (x ∷ xs) [] l h = absurd (omega arith)
same_count-same (x ∷ xs) (y ∷ ys) zero h = elim (cases_eq x y) [
  | inl e ↦ record { first = omega arith; second = omega arith; index = e }
  | inr e ↦ let none = other_first x y xs ys e in absurd (omega arith)
]
same_count-same (x ∷ xs) (y ∷ ys) (suc l) h = elim (cases_eq x y) [
  | inl e ↦
      let more = same_first x y xs ys e in
      let rest = same_count-same xs ys l (omega arith) in
      let one = rest.first in
      let two = rest.second in
      record { first = omega arith; second = omega arith; index = rest.index }
  | inr e ↦ let none = other_first x y xs ys e in absurd (omega arith)
]

pub same_count-le : (xs ys : List ℕ) → (same_count xs ys ≤ length xs) × (same_count xs ys ≤ length ys)
same_count-le [] ys = (omega arith, omega arith)
same_count-le (x ∷ xs) [] = (omega arith, omega arith)
same_count-le (x ∷ xs) (y ∷ ys) = elim (cases_eq x y) [
  | inl e ↦ let more = same_first x y xs ys e in let rest = same_count-le xs ys in (omega (arith, rest.0), omega (arith, rest.1))
  | inr e ↦ let none = other_first x y xs ys e in (omega arith, omega arith)
]

-- an index at a position stands in the list
pub stands-index_at : (xs : List ℕ) (l : ℕ) → l < length xs → stands (index_at xs l) xs ≡ true
stands-index_at [] l h = absurd (omega arith)
stands-index_at (x ∷ xs) zero h = ap (λ b. b || stands x xs) (eq-eqb x x refl)
stands-index_at (x ∷ xs) (suc l) h = elim (cases_Bool (x == index_at xs l)) [
  | inl e ↦ ap (λ b. b || stands (index_at xs l) xs) e
  | inr e ↦ ap (λ b. b || stands (index_at xs l) xs) e ∙ stands-index_at xs l (omega arith)
]

-- a same position's index is held
pub stands-same : (held xs : List ℕ) (l : ℕ) → l < same_count held xs → stands (index_at xs l) held ≡ true
stands-same held xs l h =
    let same = same_count-same held xs l h in
    ap (λ g. stands g held) (sym same.index) ∙ stands-index_at held l same.first

-- a test over the first numbers, one more of them
pub filter-push : (p : ℕ → Bool) (n : ℕ) → filter p (range_with_len 0 (n + 1)) ≡ filter p (range_with_len 0 n) ++ (if p n then n ∷ [] else [])
filter-push p n =
    ap (filter p) (run-push 0 n)
    ∙ ap (λ m. filter p (range_with_len 0 n ++ m ∷ [])) (zero-add n)
    ∙ filter-append p (range_with_len 0 n) (n ∷ [])

pub filter-none : (p : ℕ → Bool) (n : ℕ) → ((l : ℕ) → l < n → p l ≡ false) → filter p (range_with_len 0 n) ≡ []
filter-none p n h = none 0 n (λ l low high. h l (omega arith))
  where
    none : (a m : ℕ) → ((l : ℕ) → a ≤ l → l < a + m → p l ≡ false) → filter p (range_with_len a m) ≡ []
    none a zero h = refl
    none a (suc m) h =
        ap (λ b. if b then a ∷ filter p (range_with_len (a + 1) m) else filter p (range_with_len (a + 1) m)) (h a (omega arith) (omega arith))
        ∙ none (a + 1) m (λ l low high. h l (omega arith) (omega arith))

pub differ : (a b : Option ℕ) → not (option_eq nat_eq a b) ≡ true → a ≢ b
differ None None h e = absurd (cc)
differ None (Some y) h e = absurd (cc)
differ (Some x) None h e = absurd (cc)
differ (Some x) (Some y) h e =
    let same : x ≡ y = cc in
    let is : nat_eq x y ≡ true = eq-eqb x y same in
    absurd (cc)
