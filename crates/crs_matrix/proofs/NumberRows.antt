-- Rows of numbers in one list.
use Rattle.std.proofs.Common.{◌≡◌, ℕ, zero, suc, ◌+◌, ◌-◌, ◌<◌, List, [], ◌∷◌, ◌++◌, length, get_or, take, drop, map, slice_get, slice_range, slice_set, Some, refl, sym, ap, ◌∙◌, arith, length-append, length-drop, length-take}
use Rattle.std.proofs.lemmas.List.{drop-drop, drop-map, drop-set-add, drop-set-lt, take-map, take-set-le}
use Rattle.std.proofs.Math.Seq.{take-set-lt}
use Rattle.crs_graph.specs.Packed.{joined, offsets_from, offsets_of}
use Rattle.crs_matrix.specs.Matrices.{number_rows}

-- elements by index
pub slice_get-take : {A : Type 0} (n p : ℕ) (xs : List A) → p < n → slice_get (take n xs) p ≡ slice_get xs p
slice_get-take zero p xs low = absurd (omega arith)
slice_get-take (suc n) p [] low = refl
slice_get-take (suc n) zero (x ∷ xs) low = refl
slice_get-take (suc n) (suc p) (x ∷ xs) low = slice_get-take n p xs (omega arith)

pub slice_get-drop : {A : Type 0} (k p : ℕ) (xs : List A) → slice_get (drop k xs) p ≡ slice_get xs (k + p)
slice_get-drop zero p xs = let same : p ≡ 0 + p = omega arith in ap (slice_get xs) same
slice_get-drop (suc k) p [] = refl
slice_get-drop (suc k) p (x ∷ xs) = let next : suc (k + p) ≡ suc k + p = omega arith in slice_get-drop k p xs ∙ ap (slice_get (x ∷ xs)) next

pub slice_get-set_same : {A : Type 0} (xs : List A) (p : ℕ) (v : A) → p < length xs → slice_get (slice_set xs p v) p ≡ Some v
slice_get-set_same [] p v low = absurd (omega arith)
slice_get-set_same (x ∷ xs) zero v low = refl
slice_get-set_same (x ∷ xs) (suc p) v low = slice_get-set_same xs p v (omega arith)

pub slice_get-set_other : {A : Type 0} (xs : List A) (p q : ℕ) (v : A) → (p ≡ q → ⊥) → slice_get (slice_set xs p v) q ≡ slice_get xs q
slice_get-set_other [] p q v other = refl
slice_get-set_other (x ∷ xs) zero zero v other = absurd (other refl)
slice_get-set_other (x ∷ xs) zero (suc q) v other = refl
slice_get-set_other (x ∷ xs) (suc p) zero v other = refl
slice_get-set_other (x ∷ xs) (suc p) (suc q) v other = slice_get-set_other xs p q v (λ e. other (ap suc e))

-- where a row begins
start : {A : Type 0} → List (List A) → ℕ → ℕ
start [] l = 0
start (r ∷ rs) zero = 0
start (r ∷ rs) (suc l) = length r + start rs l

offset-start : {A : Type 0} (n : ℕ) (rs : List (List A)) (l : ℕ) → l < length rs → get_or (offsets_from n rs) l 0 ≡ n + start rs l
unfolding start
offset-start n [] l low = absurd (omega arith)
offset-start n (r ∷ rs) zero low = omega arith
offset-start n (r ∷ rs) (suc l) low = let rest = offset-start (n + length r) rs l (omega arith) in omega arith

start-is : {A : Type 0} (rs : List (List A)) (l : ℕ) → l < length rs → get_or (offsets_of rs) l 0 ≡ start rs l
start-is rs l low = let is = offset-start 0 rs l low in omega arith

rows-at : {A S : Type 0} (rs : List (List A)) (xs : List S) (l : ℕ) → l < length rs → get_or (number_rows rs xs) l [] ≡ take (length (get_or rs l [])) (drop (start rs l) xs)
unfolding start
rows-at [] xs l low = absurd (omega arith)
rows-at (r ∷ rs) xs zero low = refl
rows-at (r ∷ rs) xs (suc l) low = rows-at rs (drop (length r) xs) l (omega arith) ∙ ap (take (length (get_or rs l []))) (drop-drop (start rs l) (length r) xs)

-- the part of the list in which a row's numbers are
pub number_rows-part : {A S : Type 0} (rs : List (List A)) (xs : List S) (l a n : ℕ) → l < length rs → a ≡ get_or (offsets_of rs) l 0 → n ≡ length (get_or rs l [])
    → slice_range xs a (a + n) ≡ get_or (number_rows rs xs) l []
number_rows-part rs xs l a n low e f =
    let count : a + n - a ≡ length (get_or rs l []) = omega arith in
    (λ t. take (count t) (drop ((e ∙ start-is rs l low) t) xs)) ∙ sym (rows-at rs xs l low)

-- the number at a place of a row
pub number_rows-get : {A S : Type 0} (rs : List (List A)) (xs : List S) (l p k : ℕ) → l < length rs → p < length (get_or rs l []) → k ≡ get_or (offsets_of rs) l 0 + p
    → slice_get (get_or (number_rows rs xs) l []) p ≡ slice_get xs k
number_rows-get rs xs l p k low within e =
    let at : start rs l + p ≡ k = let is = start-is rs l low in omega arith in
    ap (λ vs. slice_get vs p) (rows-at rs xs l low)
    ∙ slice_get-take (length (get_or rs l [])) p (drop (start rs l) xs) within
    ∙ slice_get-drop (start rs l) p xs
    ∙ ap (slice_get xs) at

pub length-number_rows : {A S : Type 0} (rs : List (List A)) (xs : List S) → length (number_rows rs xs) ≡ length rs
length-number_rows [] xs = refl
length-number_rows (r ∷ rs) xs = ap suc (length-number_rows rs (drop (length r) xs))

-- each row has as many numbers as columns
pub number_rows-count : {A S : Type 0} (rs : List (List A)) (xs : List S) (l : ℕ) → length xs ≡ length (joined rs) → length (get_or (number_rows rs xs) l []) ≡ length (get_or rs l [])
number_rows-count [] xs l all = refl
number_rows-count (r ∷ rs) xs zero all =
    let split = length-append r (joined rs) in
    let taken = length-take (length r) xs in
    omega arith
number_rows-count (r ∷ rs) xs (suc l) all =
    let split = length-append r (joined rs) in
    let left = length-drop (length r) xs in
    number_rows-count rs (drop (length r) xs) l (omega arith)

-- one number is changed
rows-set : {A S : Type 0} (rs : List (List A)) (xs : List S) (l p : ℕ) (v : S) → l < length rs → p < length (get_or rs l [])
    → number_rows rs (slice_set xs (start rs l + p) v) ≡ slice_set (number_rows rs xs) l (slice_set (get_or (number_rows rs xs) l []) p v)
unfolding start
rows-set [] xs l p v low within = absurd (omega arith)
rows-set (r ∷ rs) xs zero p v low within =
    let at : 0 + p ≡ p = omega arith in
    ap (λ k. number_rows (r ∷ rs) (slice_set xs k v)) at
    ∙ (λ t. take-set-lt (length r) xs p v within t ∷ number_rows rs (drop-set-lt (length r) xs p v within t))
rows-set (r ∷ rs) xs (suc l) p v low within =
    let at : length r + start rs l + p ≡ length r + (start rs l + p) = omega arith in
    ap (λ k. number_rows (r ∷ rs) (slice_set xs k v)) at
    ∙ (λ t. take-set-le (length r) xs (length r + (start rs l + p)) v (omega arith) t ∷ number_rows rs (drop-set-add (length r) xs (start rs l + p) v t))
    ∙ ap (λ ys. take (length r) xs ∷ ys) (rows-set rs (drop (length r) xs) l p v (omega arith) within)

pub number_rows-set : {A S : Type 0} (rs : List (List A)) (xs : List S) (l p k : ℕ) (v : S) → l < length rs → p < length (get_or rs l []) → k ≡ get_or (offsets_of rs) l 0 + p
    → number_rows rs (slice_set xs k v) ≡ slice_set (number_rows rs xs) l (slice_set (get_or (number_rows rs xs) l []) p v)
number_rows-set rs xs l p k v low within e =
    let at : k ≡ start rs l + p = let is = start-is rs l low in omega arith in
    ap (λ k. number_rows rs (slice_set xs k v)) at ∙ rows-set rs xs l p v low within

-- all numbers are changed in the same way
pub number_rows-map : {A S T : Type 0} (f : S → T) (rs : List (List A)) (xs : List S) → number_rows rs (map f xs) ≡ map (map f) (number_rows rs xs)
number_rows-map f [] xs = refl
number_rows-map f (r ∷ rs) xs =
    (λ t. take-map f (length r) xs t ∷ number_rows rs (drop-map f (length r) xs t))
    ∙ ap (λ ys. map f (take (length r) xs) ∷ ys) (number_rows-map f rs (drop (length r) xs))

-- one more element is changed in place
changed : {A : Type 0} (f : A → A) (i : ℕ) (xs : List A) (x y : A) → i < length xs → x ≡ get_or (map f (take i xs) ++ drop i xs) i x → y ≡ f x
    → slice_set (map f (take i xs) ++ drop i xs) i y ≡ map f (take (suc i) xs) ++ drop (suc i) xs
changed f i [] x y low at e = absurd (omega arith)
changed f zero (z ∷ zs) x y low at e = ap (λ v. v ∷ zs) (e ∙ ap f at)
changed f (suc i) (z ∷ zs) x y low at e = ap (λ vs. f z ∷ vs) (changed f i zs x y (omega arith) at e)

pub changed-more : {A : Type 0} (f : A → A) (i : ℕ) (xs ys : List A) (x y : A) → i < length xs → ys ≡ map f (take i xs) ++ drop i xs → x ≡ get_or ys i x → y ≡ f x
    → slice_set ys i y ≡ map f (take (i + 1) xs) ++ drop (i + 1) xs
changed-more f i xs ys x y low done at e =
    let next : suc i ≡ i + 1 = omega arith in
    ap (λ zs. slice_set zs i y) done
    ∙ changed f i xs x y low (at ∙ ap (λ zs. get_or zs i x) done) e
    ∙ ap (λ n. map f (take n xs) ++ drop n xs) next
