-- Sums and products of integers.
use Rattle.std.proofs.Common.{◌≡◌, ◌+◌, ◌*◌, ℤ, ◌+ℤ◌, ◌*ℤ◌, ◌≤◌, unsigned_abs, arith, ap}
use borrow.Author.Differences.{down, up, product_is, sum_is_lem}
use Rattle.std.proofs.lemmas.Int.{ints}

pub mul_comm : (a b : ℤ) → a *ℤ b ≡ b *ℤ a
mul_comm a b = omega (arith, ints)

pub mul_assoc : (a b c : ℤ) → (a *ℤ b) *ℤ c ≡ a *ℤ (b *ℤ c)
mul_assoc a b c =
    let ab = product_is a b in
    let bc = product_is b c in
    omega (
      arith,
      ints,
      ap (λ t. t * up c) ab.0,
      ap (λ t. t * down c) ab.0,
      ap (λ t. t * up c) ab.1,
      ap (λ t. t * down c) ab.1,
      ap (λ t. up a * t) bc.0,
      ap (λ t. down a * t) bc.0,
      ap (λ t. up a * t) bc.1,
      ap (λ t. down a * t) bc.1,
    )

pub mul_distrib : (a b c : ℤ) → a *ℤ (b +ℤ c) ≡ (a *ℤ b) +ℤ (a *ℤ c)
mul_distrib a b c =
    omega (arith, ints, ap (λ t. up a * t) (sum_is_lem b c), ap (λ t. down a * t) (sum_is_lem b c))

pub abs_sum : (a b : ℤ) → unsigned_abs (a +ℤ b) ≤ unsigned_abs a + unsigned_abs b
abs_sum a b = grind (arith, ints)

pub add_comm : (a b : ℤ) → a +ℤ b ≡ b +ℤ a
add_comm a b = omega (arith, ints)

pub add_assoc : (a b c : ℤ) → (a +ℤ b) +ℤ c ≡ a +ℤ (b +ℤ c)
add_assoc a b c = omega (arith, ints)
