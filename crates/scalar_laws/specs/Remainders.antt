-- What is left of a number modulo another.
use Rattle.std.proofs.Common.{◌≡◌, ℕ, ◌+◌, ◌<◌, ◌≤◌, ◌%◌, max, sym, ◌∙◌, arith}
use native.Mathlib.Nat.{mod-lt, mod-add-mod, add-mod-mod, mod-eq_of_lt, mod-mod}

pub remainder_below : (n m : ℕ) → 2 ≤ m → n % m < m
remainder_below n m h = mod-lt n (omega arith)

-- a number below m is what is left of it
pub remainder_kept : (n m : ℕ) → n < m → n % m ≡ n
remainder_kept n m h = mod-eq_of_lt h

-- a term of a sum may be reduced first
pub remainder_first : (a b m : ℕ) → (a % m + b) % m ≡ (a + b) % m
remainder_first a b m = mod-add-mod a m b

pub remainder_second : (a b m : ℕ) → (a + b % m) % m ≡ (a + b) % m
remainder_second a b m = add-mod-mod a b m

pub remainder_again : (n m : ℕ) → n % m % m ≡ n % m
remainder_again n m = mod-mod n m

-- the greater of two numbers below m
pub remainder_max : (a b n m : ℕ) → a < m → b < m → n ≡ max a b → n ≡ max a b % m
remainder_max a b n m h k e = e ∙ sym (mod-eq_of_lt (omega arith))
