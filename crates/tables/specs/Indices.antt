-- Lists of numbers: indices, or ranks.
use Rattle.std.specs.Prelude.{◌≡◌, ℕ, zero, suc, ◌+◌, ◌%◌, ◌<◌, Bool, false, ◌||◌, ◌==◌, if◌then◌else◌, List, [], ◌∷◌, map}

-- Whether g stands in the list.
abbrev pub stands : ℕ → List ℕ → Bool
stands g [] = false
stands g (x ∷ xs) = (x == g) || stands g xs

-- No number stands in the list twice.
abbrev pub AreDistinct : List ℕ → Type 0
AreDistinct [] = Unit {0}
AreDistinct (x ∷ xs) = (stands x xs ≡ false) × AreDistinct xs

-- Every number of the list is below n.
abbrev pub AreBelow : ℕ → List ℕ → Type 0
AreBelow n [] = Unit {0}
AreBelow n (x ∷ xs) = (x < n) × AreBelow n xs

-- The k numbers from n on: n, n + 1, .. up to n + k - 1.
abbrev pub count_from : ℕ → ℕ → List ℕ
count_from n zero = []
count_from n (suc k) = n ∷ count_from (n + 1) k

-- What each of P ranks has, in the order of the ranks: f 0, f 1, .. up to f (P - 1).
abbrev pub each_rank : {A : Type 0} → ℕ → (ℕ → A) → List A
each_rank P f = map f (count_from 0 P)

-- The element before the rest, where it passes the test.
abbrev pub with_passed : {A : Type 0} → Bool → A → List A → List A
with_passed passes x rest = if passes then x ∷ rest else rest

-- The elements with k mod P = r, where the first one is number k = n and each further one has the next number.
abbrev pub dealt_from : {A : Type 0} → ℕ → ℕ → ℕ → List A → List A
dealt_from n P r [] = []
dealt_from n P r (x ∷ xs) = with_passed ((n % P) == r) x (dealt_from (n + 1) P r xs)

-- The part of a list that is dealt to rank r of P: its elements k, counted from 0, with k mod P = r, in their order.
abbrev pub dealt : {A : Type 0} → ℕ → ℕ → List A → List A
dealt P r xs = dealt_from 0 P r xs
