-- The numbers of a list in ascending order.
use Rattle.std.proofs.Common.{◌≡◌, ℕ, zero, suc, ◌+◌, ◌<◌, ◌≤◌, ◌⊎◌, inl, inr, Bool, true, false, cond, eqb, ltb, leb, ◌||◌, ◌&&◌, List, [], ◌∷◌, ◌++◌, length, get_or, take, Some, refl, sym, ap, ◌∙◌, arith}
use Rattle.std.specs.List.{list_all, slice_get}
use Rattle.std.proofs.lemmas.List.{take_more}
use Rattle.std.proofs.lemmas.Option.{slice_get_within, get_or_from_slice_get}
use Rattle.std.specs.List.Sorted.{IsPermutation, IsNonDecreasing}
use Rattle.std.proofs.lemmas.Bool.{and_parts, and_from, or_parts, or_right, or_cases, eqb-true, eqb-false, eq-eqb, ne_eqb, leb-true, leb-false, le-leb, ltb-true, lt-ltb, cases_eq}
use Rattle.tables.specs.Sums.{Joining, IsJoining, total}
use Rattle.tables.proofs.Permutations.{total-IsPermutation}
use Rattle.tables.specs.Indices.{stands, AreDistinct}
use Rattle.rank_share.specs.Ascending.{with_index, ascending}

pub list_all-weaker : {A : Type 0} (p q : A → Bool) → ((x : A) → p x ≡ true → q x ≡ true) → (xs : List A) → list_all p xs ≡ true → list_all q xs ≡ true
list_all-weaker p q f [] h = refl
list_all-weaker p q f (x ∷ xs) h = let both = and_parts (p x) (list_all p xs) h in and_from _ _ (f x both.0) (list_all-weaker p q f xs both.1)

pub list_all-from_get_or : {A : Type 0} (p : A → Bool) (xs : List A) (d : A) → ((k : ℕ) → k < length xs → p (get_or xs k d) ≡ true) → list_all p xs ≡ true
list_all-from_get_or p [] d h = refl
list_all-from_get_or p (x ∷ xs) d h = and_from _ _ (h 0 (omega arith)) (list_all-from_get_or p xs d (λ k l. h (suc k) (omega arith)))

-- no number is below one before it
abbrev pub IsRising : List ℕ → Type 0
IsRising [] = Unit {0}
IsRising (x ∷ xs) = (list_all (leb x) xs ≡ true) × IsRising xs

-- each number is above those before it
abbrev pub IsStrict : List ℕ → Type 0
IsStrict [] = Unit {0}
IsStrict (x ∷ xs) = (list_all (ltb x) xs ≡ true) × IsStrict xs

pub IsRising-from_order : (xs : List ℕ) → IsNonDecreasing xs → IsRising xs
IsRising-from_order [] h = tt
IsRising-from_order (x ∷ xs) h = (
  list_all-from_get_or (leb x) xs 0 (λ k l. le-leb x _ (h 0 (suc k) 0 (omega arith) (omega arith))),
  IsRising-from_order xs (λ i j d l m. h (suc i) (suc j) d (omega arith) (omega arith)),
)

-- how often a number stands in a list
adding : Joining ℕ
adding = record { unit = 0; join = ◌+◌ }

adding-IsJoining : IsJoining adding
unfolding adding
adding-IsJoining = record { comm = λ a b. omega arith; assoc = λ a b c. omega arith; unit_left = λ a. omega arith }

often : ℕ → List ℕ → ℕ
often g [] = 0
often g (x ∷ xs) = cond (eqb x g) 1 0 + often g xs

often-total : (g : ℕ) (xs : List ℕ) → total adding (λ x. cond (eqb x g) 1 0) xs ≡ often g xs
unfolding adding often
often-total g [] = refl
often-total g (x ∷ xs) = ap (λ n. cond (eqb x g) 1 0 + n) (often-total g xs)

often-IsPermutation : (g : ℕ) (xs ys : List ℕ) → IsPermutation xs ys → often g ys ≡ often g xs
often-IsPermutation g xs ys h = sym (often-total g ys) ∙ total-IsPermutation adding-IsJoining (λ x. cond (eqb x g) 1 0) xs ys h ∙ often-total g xs

often-none : (g : ℕ) → often g [] ≡ 0
unfolding often
often-none g = refl

often-cons : (g x : ℕ) (xs : List ℕ) → often g (x ∷ xs) ≡ cond (eqb x g) 1 0 + often g xs
unfolding often
often-cons g x xs = refl

often-own : (x : ℕ) (xs : List ℕ) → often x (x ∷ xs) ≡ suc (often x xs)
often-own x xs = often-cons x x xs ∙ ap (λ b. cond b 1 0 + often x xs) (eq-eqb x x refl) ∙ omega arith

often-other : (x g : ℕ) (xs : List ℕ) → (x ≡ g → ⊥) → often g (x ∷ xs) ≡ often g xs
often-other x g xs h = often-cons g x xs ∙ ap (λ b. cond b 1 0 + often g xs) (ne_eqb x g h) ∙ omega arith

-- a number of a list of which all are at least x
least : (x g : ℕ) (xs : List ℕ) → list_all (leb x) xs ≡ true → 0 < often g xs → x ≤ g
least x g [] h l = let none = often-none g in absurd (omega arith)
least x g (y ∷ ys) h l = let both = and_parts (leb x y) _ h in go both.0 (λ m. least x g ys both.1 m) (cases_eq y g)
  where
    go : leb x y ≡ true → (0 < often g ys → x ≤ g) → (y ≡ g) ⊎ (y ≡ g → ⊥) → x ≤ g
    go first rest (inl e) = let low = leb-true x y first in omega arith
    go first rest (inr ne) = let same = often-other y g ys ne in rest (omega arith)

without : (m n a b c d : ℕ) → m ≡ n → a ≡ b → m ≡ a + c → n ≡ b + d → c ≡ d
without m n a b c d e f p q = omega arith

-- Rising lists that have each number equally often are equal.
unique : (xs ys : List ℕ) → IsRising xs → IsRising ys → ((g : ℕ) → often g xs ≡ often g ys) → xs ≡ ys
unique [] [] r s h = refl
unique [] (y ∷ ys) r s h = let a = h y in let b = often-own y ys in let c = often-none y in absurd (omega arith)
unique (x ∷ xs) [] r s h = let a = h x in let b = often-own x xs in let c = often-none x in absurd (omega arith)
unique (x ∷ xs) (y ∷ ys) r s h = let more = unique xs ys r.1 s.1 rest in λ t. same t ∷ more t
  where
    same : x ≡ y
    same = go (cases_eq x y)
      where
        go : (x ≡ y) ⊎ (x ≡ y → ⊥) → x ≡ y
        go (inl e) = e
        go (inr ne) =
            let up : y ≤ x = least y x ys s.0 (let a = h x in let b = often-own x xs in let c = often-other y x ys (λ e. ne (sym e)) in omega arith) in
            let down : x ≤ y = least x y xs r.0 (let a = h y in let b = often-own y ys in let c = often-other x y xs ne in omega arith) in
            omega arith

    rest : (g : ℕ) → often g xs ≡ often g ys
    rest g = without (often g (x ∷ xs)) (often g (y ∷ ys)) (cond (eqb x g) 1 0) (cond (eqb y g) 1 0) (often g xs) (often g ys) (h g) (ap (λ z. cond (eqb z g) 1 0) same) (often-cons g x xs) (often-cons g y ys)

often-with_index : (g x : ℕ) (xs : List ℕ) → often g (with_index x xs) ≡ often g (x ∷ xs)
often-with_index g x [] = refl
often-with_index g x (y ∷ ys) = go (leb x y) (often-with_index g x ys)
  where
    go : (b : Bool) → often g (with_index x ys) ≡ often g (x ∷ ys) → often g (cond b (x ∷ y ∷ ys) (y ∷ with_index x ys)) ≡ often g (x ∷ y ∷ ys)
    go true e = refl
    go false e =
        let a = often-cons g y (with_index x ys) in
        let b = often-cons g x (y ∷ ys) in
        let c = often-cons g y ys in
        let d = often-cons g x ys in
        omega arith

often-ascending : (g : ℕ) (xs : List ℕ) → often g (ascending xs) ≡ often g xs
often-ascending g [] = refl
often-ascending g (x ∷ xs) = often-with_index g x (ascending xs) ∙ often-cons g x (ascending xs) ∙ ap (λ n. cond (eqb x g) 1 0 + n) (often-ascending g xs) ∙ sym (often-cons g x xs)

all-with_index : (p : ℕ → Bool) (x : ℕ) (xs : List ℕ) → p x ≡ true → list_all p xs ≡ true → list_all p (with_index x xs) ≡ true
all-with_index p x [] h more = and_from (p x) _ h refl
all-with_index p x (y ∷ ys) h more = let both = and_parts (p y) _ more in go (leb x y) both.0 (all-with_index p x ys h both.1)
  where
    go : (b : Bool) → p y ≡ true → list_all p (with_index x ys) ≡ true → list_all p (cond b (x ∷ y ∷ ys) (y ∷ with_index x ys)) ≡ true
    go true first last = and_from (p x) _ h more
    go false first last = and_from (p y) _ first last

rising-with_index : (x : ℕ) (xs : List ℕ) → IsRising xs → IsRising (with_index x xs)
rising-with_index x [] h = (refl, tt)
rising-with_index x (y ∷ ys) h = go (leb x y) refl (rising-with_index x ys h.1)
  where
    go : (b : Bool) → leb x y ≡ b → IsRising (with_index x ys) → IsRising (cond b (x ∷ y ∷ ys) (y ∷ with_index x ys))
    go true e last = (and_from (leb x y) _ e (list_all-weaker (leb y) (leb x) (λ z l. le-leb x z (let a = leb-true x y e in let b = leb-true y z l in omega arith)) ys h.0), h)
    go false e last = (all-with_index (leb y) x ys (le-leb y x (let a = leb-false x y e in omega arith)) h.0, last)

rising-ascending : (xs : List ℕ) → IsRising (ascending xs)
rising-ascending [] = tt
rising-ascending (x ∷ xs) = rising-with_index x (ascending xs) (rising-ascending xs)

-- What a sort leaves is the list in ascending order.
pub ascending-sorted : (xs ys : List ℕ) → IsPermutation xs ys → IsNonDecreasing ys → ys ≡ ascending xs
ascending-sorted xs ys h up = unique ys (ascending xs) (IsRising-from_order ys up) (rising-ascending xs) (λ g. often-IsPermutation g xs ys h ∙ sym (often-ascending g xs))

stands-with_index : (g x : ℕ) (xs : List ℕ) → stands g (with_index x xs) ≡ (eqb x g || stands g xs)
stands-with_index g x [] = refl
stands-with_index g x (y ∷ ys) = go (leb x y) (stands-with_index g x ys)
  where
    swap : (a b c : Bool) → (a || (b || c)) ≡ (b || (a || c))
    swap true true c = refl
    swap true false c = refl
    swap false b c = refl

    go : (b : Bool) → stands g (with_index x ys) ≡ (eqb x g || stands g ys) → stands g (cond b (x ∷ y ∷ ys) (y ∷ with_index x ys)) ≡ (eqb x g || (eqb y g || stands g ys))
    go true more = refl
    go false more = ap (λ b. eqb y g || b) more ∙ swap (eqb y g) (eqb x g) (stands g ys)

-- It has the same numbers.
pub stands-ascending : (g : ℕ) (xs : List ℕ) → stands g (ascending xs) ≡ stands g xs
stands-ascending g [] = refl
stands-ascending g (x ∷ xs) = stands-with_index g x (ascending xs) ∙ ap (λ b. eqb x g || b) (stands-ascending g xs)

strict-with_index : (x : ℕ) (xs : List ℕ) → stands x xs ≡ false → IsStrict xs → IsStrict (with_index x xs)
strict-with_index x [] h s = (refl, tt)
strict-with_index x (y ∷ ys) h s = let parts = or_parts (eqb y x) _ h in go (eqb-false y x parts.0) (leb x y) refl (strict-with_index x ys parts.1 s.1)
  where
    below : (y ≡ x → ⊥) → (y ≡ x) ⊎ (y ≡ x → ⊥) → x ≤ y → x < y
    below ne (inl e) a = absurd (ne e)
    below ne (inr n) a = omega (arith, n)

    go : (y ≡ x → ⊥) → (b : Bool) → leb x y ≡ b → IsStrict (with_index x ys) → IsStrict (cond b (x ∷ y ∷ ys) (y ∷ with_index x ys))
    go ne true e last =
        let up : x < y = below ne (cases_eq y x) (leb-true x y e) in
        (and_from (ltb x y) _ (lt-ltb x y up) (list_all-weaker (ltb y) (ltb x) (λ z l. lt-ltb x z (let b = ltb-true y z l in omega arith)) ys s.0), s)
    go ne false e last = (all-with_index (ltb y) x ys (lt-ltb y x (leb-false x y e)) s.0, last)

-- Without repeats it rises from each number to the next.
pub strict-ascending : (xs : List ℕ) → AreDistinct xs → IsStrict (ascending xs)
strict-ascending [] h = tt
strict-ascending (x ∷ xs) h = strict-with_index x (ascending xs) (stands-ascending x xs ∙ h.0) (strict-ascending xs h.1)

-- a number below all of a list does not stand there
absent : (x : ℕ) (xs : List ℕ) → list_all (ltb x) xs ≡ true → stands x xs ≡ false
absent x [] h = refl
absent x (y ∷ ys) h =
    let both = and_parts (ltb x y) _ h in
    ap (λ b. b || stands x ys) (ne_eqb y x (λ e. let l = ltb-true x y both.0 in absurd (omega arith))) ∙ absent x ys both.1

pub distinct-strict : (xs : List ℕ) → IsStrict xs → AreDistinct xs
distinct-strict [] h = tt
distinct-strict (x ∷ xs) h = (absent x xs h.0, distinct-strict xs h.1)

-- a number of a list of which all are above x
pub above : (x g : ℕ) (xs : List ℕ) → list_all (ltb x) xs ≡ true → stands g xs ≡ true → x < g
above x g [] h s = absurd (let bad : ⊥ = cc in bad)
above x g (y ∷ ys) h s = let both = and_parts (ltb x y) _ h in go both.0 (λ m. above x g ys both.1 m) (cases_eq y g)
  where
    go : ltb x y ≡ true → (stands g ys ≡ true → x < g) → (y ≡ g) ⊎ (y ≡ g → ⊥) → x < g
    go first rest (inl e) = let l = ltb-true x y first in omega arith
    go first rest (inr ne) = rest (ap (λ b. b || stands g ys) (sym (ne_eqb y g ne)) ∙ s)

-- an element at a place of a list stands there
pub stands-get_or : (xs : List ℕ) (i d : ℕ) → i < length xs → stands (get_or xs i d) xs ≡ true
stands-get_or [] i d l = absurd (omega arith)
stands-get_or (x ∷ xs) zero d l = ap (λ b. b || stands x xs) (eq-eqb x x refl)
stands-get_or (x ∷ xs) (suc i) d l = or_right (eqb x (get_or xs i d)) _ (stands-get_or xs i d (omega arith))

-- an index of a list in ascending order stands in the list
pub stands-read : (list gids : List ℕ) (i d : ℕ) → gids ≡ ascending list → i < length gids → stands (get_or gids i d) list ≡ true
stands-read list gids i d is l =
    sym (stands-ascending (get_or gids i d) list) ∙ sym (ap (stands (get_or gids i d)) is) ∙ stands-get_or gids i d l

-- The rows of a list up to a local index, and one more.
pub taken-more : (xs : List ℕ) (l g : ℕ) → Some g ≡ slice_get xs l → take (l + 1) xs ≡ take l xs ++ g ∷ []
taken-more xs l g e = take_more xs l g (slice_get_within xs l g (sym e)) ∙ ap (λ y. take l xs ++ y ∷ []) (get_or_from_slice_get xs l g g (sym e))

-- A list without repeats has no number a second time.
pub no_repeat : (xs : List ℕ) (k g : ℕ) → AreDistinct xs → slice_get xs k ≡ Some g → stands g (take k xs) ≡ true → ⊥
no_repeat [] k g apart at earlier = let bad : ⊥ = cc in bad
no_repeat (x ∷ xs) zero g apart at earlier = let bad : ⊥ = cc in bad
no_repeat (x ∷ xs) (suc k) g apart at earlier = go (λ more. no_repeat xs k g apart.1 at more) (or_cases (eqb x g) _ earlier)
  where
    here : stands g xs ≡ true
    here = ap (λ y. stands y xs) (sym (get_or_from_slice_get xs k g 0 at)) ∙ stands-get_or xs k 0 (slice_get_within xs k g at)

    go : (stands g (take k xs) ≡ true → ⊥) → (eqb x g ≡ true) ⊎ (stands g (take k xs) ≡ true) → ⊥
    go rest (inl e) = let a = ap (λ y. stands y xs) (eqb-true x g e) in let b = apart.0 in let c = here in let bad : ⊥ = cc in bad
    go rest (inr e) = rest e
