-- Which indices stand in a list, and lists in which none stands twice.
use Rattle.std.proofs.Common.{◌≡◌, ℕ, zero, suc, Bool, true, false, ◌||◌, ◌&&◌, ◌==◌, ◌+◌, ◌<◌, ◌⊎◌, cond, List, [], ◌∷◌, ◌++◌, filter, length, take, get_or, nat_eq, inl, inr, refl, sym, ap, ◌∙◌, subst, arith}
use Rattle.std.specs.List.{concat, list_any, AllByRecursion, IsDistinct}
use Rattle.std.proofs.lemmas.Bool.{cases_Bool, eq-eqb, eqb-true, or_cases, or_from, or_left, or_right}
use Rattle.std.proofs.lemmas.Bool.Decides.{nat_tests}
use Rattle.std.proofs.lemmas.List.{take_more}
use Rattle.std.proofs.lemmas.Map.Keys.{IsDistinct-head, IsDistinct-tail}
use Rattle.indexmap.specs.IndexSet.{insert_key}
use Rattle.map_core.specs.Layouts.{stands, AreDistinct}

pub or_assoc : (a b c : Bool) → (a || (b || c)) ≡ ((a || b) || c)
or_assoc true b c = refl
or_assoc false b c = refl

eqb_comm : (a b : ℕ) → (a == b) ≡ (b == a)
eqb_comm a b = grind (arith, nat_tests)

pub stands-append : (g : ℕ) (xs ys : List ℕ) → stands g (xs ++ ys) ≡ (stands g xs || stands g ys)
stands-append g [] ys = refl
stands-append g (x ∷ xs) ys = ap (λ b. x == g || b) (stands-append g xs ys) ∙ or_assoc (x == g) (stands g xs) (stands g ys)

pub stands_front : (g : ℕ) (xs ys : List ℕ) → stands g xs ≡ true → stands g (xs ++ ys) ≡ true
stands_front g xs ys h = grind (arith, stands-append g xs ys)

pub stands_back : (g : ℕ) (xs ys : List ℕ) → stands g ys ≡ true → stands g (xs ++ ys) ≡ true
stands_back g xs ys h = grind (arith, stands-append g xs ys)

-- what stands in no joined list stands in neither
pub absent_front : (g : ℕ) (xs ys : List ℕ) → stands g (xs ++ ys) ≡ false → stands g xs ≡ false
absent_front g xs ys h = grind (arith, stands-append g xs ys)

pub absent_back : (g : ℕ) (xs ys : List ℕ) → stands g (xs ++ ys) ≡ false → stands g ys ≡ false
absent_back g xs ys h = grind (arith, stands-append g xs ys)

pub stands-concat : (g : ℕ) (ls : List (List ℕ)) (k : ℕ) → stands g (get_or ls k []) ≡ true → stands g (concat ls) ≡ true
stands-concat g [] k h = h
stands-concat g (l ∷ ls) zero h = stands_front g l (concat ls) h
stands-concat g (l ∷ ls) (suc k) h = stands_back g l (concat ls) (stands-concat g ls k h)

pub AreDistinct-front : (xs ys : List ℕ) → AreDistinct (xs ++ ys) → AreDistinct xs
AreDistinct-front [] ys h = tt
AreDistinct-front (x ∷ xs) ys h = (absent_front x xs ys h.0, AreDistinct-front xs ys h.1)

pub AreDistinct-back : (xs ys : List ℕ) → AreDistinct (xs ++ ys) → AreDistinct ys
AreDistinct-back [] ys h = h
AreDistinct-back (x ∷ xs) ys h = AreDistinct-back xs ys h.1

-- what stands in the front of a distinct list stands in its back no more
pub apart : (g : ℕ) (xs ys : List ℕ) → AreDistinct (xs ++ ys) → stands g xs ≡ true → stands g ys ≡ false
apart g [] ys h at = absurd (cc)
apart g (x ∷ xs) ys h at = elim (or_cases (x == g) (stands g xs) at) [
  | inl here ↦ let same : g ≡ x = sym (eqb-true x g here) in ap (λ y. stands y ys) same ∙ absent_back x xs ys h.0
  | inr there ↦ apart g xs ys h.1 there
]

-- the test of a set for a number
pub stands-list_any : (g : ℕ) (xs : List ℕ) → list_any (nat_eq g) xs ≡ stands g xs
stands-list_any g [] = refl
stands-list_any g (x ∷ xs) = ap (λ b. b || list_any (nat_eq g) xs) (eqb_comm g x) ∙ ap (λ b. x == g || b) (stands-list_any g xs)

absent_all : (g : ℕ) (xs : List ℕ) → AllByRecursion (λ x. nat_eq g x ≡ false) xs → stands g xs ≡ false
absent_all g [] h = refl
absent_all g (x ∷ xs) h = or_from (x == g) (stands g xs) (eqb_comm x g ∙ h.0) (absent_all g xs h.1)

-- a set's keys are distinct
pub AreDistinct-from_set : (xs : List ℕ) → IsDistinct nat_eq xs → AreDistinct xs
AreDistinct-from_set [] h = tt
AreDistinct-from_set (x ∷ xs) h = (absent_all x xs (IsDistinct-head nat_eq x xs h), AreDistinct-from_set xs (IsDistinct-tail nat_eq x xs h))

-- what passes a test of a list's numbers
pub and_true : (a b : Bool) → (a && b) ≡ true → (a ≡ true) × (b ≡ true)
and_true true b h = (refl, h)
and_true false b h = absurd (cc)

and_false : (b : Bool) → (b && false) ≡ false
and_false true = refl
and_false false = refl

pub both_true : (a b : Bool) → a ≡ true → b ≡ true → (a && b) ≡ true
both_true a b p q = ap (λ x. x && b) p ∙ q

passes : (g x : ℕ) (test : ℕ → Bool) (b : Bool) → test x ≡ true → (x == g || (b && test g)) ≡ ((x == g || b) && test g)
passes g x test b on = elim (cases_Bool (x == g)) [
  | inl here ↦
      let at : test g ≡ true = ap test (sym (eqb-true x g here)) ∙ on in
      ap (λ e. e || (b && test g)) here ∙ sym (ap (λ e. (e || b) && test g) here ∙ at)
  | inr other ↦ ap (λ e. e || (b && test g)) other ∙ sym (ap (λ e. (e || b) && test g) other)
]

fails : (g x : ℕ) (test : ℕ → Bool) (b : Bool) → test x ≡ false → (b && test g) ≡ ((x == g || b) && test g)
fails g x test b off = elim (cases_Bool (x == g)) [
  | inl here ↦
      let at : test g ≡ false = ap test (sym (eqb-true x g here)) ∙ off in
      ap (λ t. b && t) at ∙ and_false b ∙ sym (ap (λ e. (e || b) && test g) here ∙ at)
  | inr other ↦ sym (ap (λ e. (e || b) && test g) other)
]

pub stands-filter : (g : ℕ) (test : ℕ → Bool) (xs : List ℕ) → stands g (filter test xs) ≡ (stands g xs && test g)
stands-filter g test [] = refl
stands-filter g test (x ∷ xs) = elim (cases_Bool (test x)) [
  | inl on ↦ ap (λ b. stands g (cond b (x ∷ filter test xs) (filter test xs))) on ∙ ap (λ b. x == g || b) (stands-filter g test xs) ∙ passes g x test (stands g xs) on
  | inr off ↦ ap (λ b. stands g (cond b (x ∷ filter test xs) (filter test xs))) off ∙ stands-filter g test xs ∙ fails g x test (stands g xs) off
]

pub AreDistinct-filter : (test : ℕ → Bool) (xs : List ℕ) → AreDistinct xs → AreDistinct (filter test xs)
AreDistinct-filter test [] h = tt
AreDistinct-filter test (x ∷ xs) h = elim (cases_Bool (test x)) [
  | inl on ↦
      let off : stands x (filter test xs) ≡ false = stands-filter x test xs ∙ ap (λ b. b && test x) h.0 in
      subst (λ b. AreDistinct (cond b (x ∷ filter test xs) (filter test xs))) (sym on) (off, AreDistinct-filter test xs h.1)
  | inr off ↦ subst (λ b. AreDistinct (cond b (x ∷ filter test xs) (filter test xs))) (sym off) (AreDistinct-filter test xs h.1)
]

-- two lists of distinct numbers that share none
pub AreDistinct-append : (xs ys : List ℕ) → AreDistinct xs → AreDistinct ys → ((g : ℕ) → stands g xs ≡ true → stands g ys ≡ false) → AreDistinct (xs ++ ys)
AreDistinct-append [] ys h k apart = k
AreDistinct-append (x ∷ xs) ys h k apart = (
  stands-append x xs ys ∙ or_from (stands x xs) (stands x ys) h.0 (apart x (or_left (x == x) (stands x xs) (eq-eqb x x refl))),
  AreDistinct-append xs ys h.1 k (λ g at. apart g (or_right (x == g) (stands g xs) at)),
)

pub or_false : (a : Bool) → (a || false) ≡ a
or_false true = refl
or_false false = refl

-- a set after a number is inserted, and the front of a list with one number more
pub stands-insert : (g : ℕ) (keys : List ℕ) (x : ℕ) → stands g (insert_key nat_eq keys x) ≡ (stands g keys || (x == g))
stands-insert g keys x = elim (cases_Bool (list_any (nat_eq x) keys)) [
  | inl known ↦ ap (λ b. stands g (cond b keys (keys ++ x ∷ []))) known ∙ again (cases_Bool (x == g)) (sym (stands-list_any x keys) ∙ known)
  | inr fresh ↦ ap (λ b. stands g (cond b keys (keys ++ x ∷ []))) fresh ∙ stands-append g keys (x ∷ []) ∙ ap (λ b. stands g keys || b) (or_false (x == g))
]
  where
    again : ((x == g) ≡ true) ⊎ ((x == g) ≡ false) → stands x keys ≡ true → stands g keys ≡ (stands g keys || (x == g))
    again (inl here) at =
        let on : stands g keys ≡ true = ap (λ y. stands y keys) (sym (eqb-true x g here)) ∙ at in
        on ∙ sym (or_left (stands g keys) (x == g) on)
    again (inr other) at = sym (ap (λ b. stands g keys || b) other ∙ or_false (stands g keys))

pub stands-take_more : (g : ℕ) (xs : List ℕ) (i : ℕ) → i < length xs → stands g (take (i + 1) xs) ≡ (stands g (take i xs) || (get_or xs i 0 == g))
stands-take_more g xs i h =
    ap (stands g) (take_more xs i 0 h)
    ∙ stands-append g (take i xs) (get_or xs i 0 ∷ [])
    ∙ ap (λ b. stands g (take i xs) || b) (or_false (get_or xs i 0 == g))

pub none_equal : (g : ℕ) (xs : List ℕ) → stands g xs ≡ false → AllByRecursion (λ x. nat_eq g x ≡ false) xs
none_equal g [] h = tt
none_equal g (x ∷ xs) h = elim (cases_Bool (x == g)) [
  | inl here ↦ let on : stands g (x ∷ xs) ≡ true = or_left (x == g) (stands g xs) here in absurd (cc)
  | inr other ↦ (eqb_comm g x ∙ other, none_equal g xs (sym (ap (λ b. b || stands g xs) other) ∙ h))
]

-- distinct numbers, as a set has them
pub AreDistinct-to_set : (xs : List ℕ) → AreDistinct xs → IsDistinct nat_eq xs
unfolding IsDistinct
AreDistinct-to_set [] h = tt
AreDistinct-to_set (x ∷ xs) h = (none_equal x xs h.0, AreDistinct-to_set xs h.1)
