-- Sums of any kind: over lists, and over the numbers below a number.
use Rattle.std.specs.Prelude.{◌≡◌, ℕ, zero, suc, List, [], ◌∷◌, Option, None, Some}
use Rattle.scalar_laws.specs.Semiring.{Semiring}

-- A way to join two values, and the value that leaves every other as it is.
pub record Joining (A : Type 0) : Type 0 where
  pub unit : A
  pub join : A → A → A

-- The laws of a commutative monoid.
pub record IsJoining {A : Type 0} (M : Joining A) : Type 0 where
  pub comm : (a b : A) → M.join a b ≡ M.join b a
  pub assoc : (a b c : A) → M.join (M.join a b) c ≡ M.join a (M.join b c)
  pub unit_left : (a : A) → M.join M.unit a ≡ a

-- The sum of f over a list: f of each element, joined; the unit where the list is empty.
abbrev pub total : {A B : Type 0} → Joining B → (A → B) → List A → B
total M f [] = M.unit
total M f (x ∷ xs) = M.join (f x) (total M f xs)

-- The sum of f over the numbers below n: f 0, f 1, .. up to f (n - 1), joined.
abbrev pub total_below : {B : Type 0} → Joining B → ℕ → (ℕ → B) → B
total_below M zero f = M.unit
total_below M (suc n) f = M.join (total_below M n f) (f n)

-- The sum of numbers.
abbrev pub sums : {S : Type 0} → Semiring S → Joining S
sums R = record { unit = R.nought; join = R.plus }

-- Of two numbers that may be absent: f of both where both are there, else the one that is there.
abbrev pub both_or_one : {S : Type 0} → (S → S → S) → Option S → Option S → Option S
both_or_one f None b = b
both_or_one f (Some a) None = Some a
both_or_one f (Some a) (Some b) = Some (f a b)

-- The sum of numbers that may be absent: absent is its unit, so a sum is there where one of its terms is.
abbrev pub if_there : {S : Type 0} → (S → S → S) → Joining (Option S)
if_there f = record { unit = None; join = both_or_one f }
