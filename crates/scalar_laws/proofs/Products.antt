-- The product of two stored pairs in 128 bits.
use Rattle.std.proofs.Common.{◌≡◌, ◌*◌, ◌≤◌, ◌<◌, ◌^◌, inl, inr, ℕ, ℤ, ◌*ℤ◌, true, nat_le, unsigned_abs, min, arith, sym, ap, ◌∙◌, to_z, of_z, FitsSigned}
use Rattle.std.proofs.lemmas.Bool.Decides.{nat_tests}
use Rattle.std.proofs.lemmas.Int.{fits_signed_from_abs, fits_signed_mul, to_z-of_z}
use mir.Syntax.{w128}
use Rattle.scalar_laws.specs.Number.{over, made, max_weight, over_weight, times}
use Rattle.scalar_laws.specs.NumberLaws.{weight_parts, abs_product, made_high, times_made_both}
use Rattle.scalar_laws.specs.Stored.{is_stored}
use Rattle.scalar_laws.specs.WeighedLaws.{stored_parts}

-- a stored value is within its weight, and below 2^127
pub stored_value : (v : ℤ) (w : ℕ) → is_stored v w ≡ true → (unsigned_abs v ≤ w) × (unsigned_abs v < 2 ^ 127)
stored_value v w h =
    elim (stored_parts v w h) [
      | inl fits ↦ let p = weight_parts v w fits in (p.0, omega (arith, p.0, p.1))
      | inr rest ↦ let none : unsigned_abs v ≡ 0 = ap unsigned_abs rest.0 in (omega arith, omega arith)
    ]

-- the product of two numbers is made of the products of what is stored, Over's too
times_stored : (v : ℤ) (w : ℕ) (x : ℤ) (y : ℕ) → is_stored v w ≡ true → is_stored x y ≡ true → times (made v w) (made x y) ≡ made (v *ℤ x) (w * y)
times_stored v w x y h k = times_made_both v x w y (stored_value v w h).0 (stored_value x y k).0

-- ---- the signed product in the code's bits

abbrev pub product_of : ℤ → ℤ → ℤ
product_of a b = to_z w128 (of_z w128 a) *ℤ to_z w128 (of_z w128 b)

module _ (v : ℤ) (w : ℕ) (x : ℤ) (y : ℕ) (hv : is_stored v w ≡ true) (hx : is_stored x y ≡ true) where
  product_is : product_of v x ≡ v *ℤ x
  product_is = λ i. to_z-of_z w128 v (fits_signed_from_abs w128 v (stored_value v w hv).1) i *ℤ to_z-of_z w128 x (fits_signed_from_abs w128 x (stored_value x y hx).1) i

  module _ (n : ℕ) (n_is : n ≡ min (w * y) over_weight) (low : n ≤ max_weight) where
    exact : n ≡ w * y
    exact = omega (arith, n_is, low)

    pub product_fits : FitsSigned w128 (product_of v x)
    product_fits = rw product_is (fits_signed_mul w128 v x w y (stored_value v w hv).0 (stored_value x y hx).0 (omega (arith, exact, low)))

    pub product_back : to_z w128 (of_z w128 (product_of v x)) ≡ v *ℤ x
    product_back = to_z-of_z w128 (product_of v x) product_fits ∙ product_is

    pub product_stored : is_stored (to_z w128 (of_z w128 (product_of v x))) n ≡ true
    product_stored =
        rw product_back
        (let within : unsigned_abs (v *ℤ x) ≤ w * y = abs_product v x w y (stored_value v w hv).0 (stored_value x y hx).0 in
        let same : n ≡ w * y = exact in
        let t : nat_le (unsigned_abs (v *ℤ x)) n ≡ true = grind (arith, nat_tests) in
        let u : nat_le n max_weight ≡ true = grind (arith, nat_tests) in
        rw (t, u))

    pub product_made : made (to_z w128 (of_z w128 (product_of v x))) n ≡ times (made v w) (made x y)
    product_made = (λ i. made (product_back i) (exact i)) ∙ sym (times_stored v w x y hv hx)

  pub product_over : (n : ℕ) → n ≡ min (w * y) over_weight → max_weight < n → over ≡ times (made v w) (made x y)
  product_over n n_is high = sym (times_stored v w x y hv hx ∙ made_high (v *ℤ x) (w * y) (omega (arith, n_is, high)))
