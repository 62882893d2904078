-- Weighed numbers of the code meet the laws.
use Rattle.std.proofs.Common.{◌≡◌, ◌≤◌, ◌<◌, ◌==◌, ◌&&◌, ◌||◌, ◌⊎◌, inl, inr, ℕ, ℤ, pos, Bool, true, false, cond, nat_le, unsigned_abs, arith, refl, sym, ap, subst, ◌∙◌, ◌^◌, Some, is_none, length, All, to_z, of_z, FitsSigned}
use Rattle.std.proofs.lemmas.Bool.{and_parts, eqb-true}
use Rattle.std.proofs.lemmas.Bool.Decides.{nat_tests}
use Rattle.std.specs.Ordering.{int_eq}
use Rattle.std.proofs.lemmas.Int.{ints, fits_signed_from_abs, to_z-of_z}
use Rattle.std.proofs.lemmas.List.Elements.{All-append}
use Rattle.std.specs.Int.{to_le_bytes, from_le_bytes}
use mir.Syntax.{w128}
use mathlib.Core.Bool.{Bool-set}
use mathlib.Core.HLevel.{is_prop→PathP}
use Rattle.scalar_laws.specs.Semiring.{IsSemiring}
use Rattle.scalar_laws.specs.Conversions.{AreConversions}
use Rattle.scalar_laws.specs.Words.{word_back, bytes_below}
use Rattle.scalar_laws.specs.Number.{Number, number, over, made, max_weight, is_number, is_weighed, over_weight, plus, times, top, num, new_number, file_number, is_over_number, shown_number, pair_bytes, number_bytes, number_of_bytes}
use Rattle.scalar_laws.specs.NumberLaws.{made_low, weight_parts, plus_comm, plus_assoc, plus_zero, times_comm, times_assoc, times_one, times_zero, distributes, top_comm, top_assoc, is_number-plus, is_number-times, is_number-top}
use Rattle.scalar_laws.specs.Stored.{is_stored}
use Rattle.scalar_laws.specs.Weighed.{num_of, stored, stored_if, over_stored, stored_option, weighed_semiring, weighed_conversions}
use Rattle.scalar_laws.specs.declared.weighed.Weighed.{Weighed}

-- ---- what is stored stands for its number

-- a stored pair is a number, or that of Over
pub stored_parts : (v : ℤ) (w : ℕ) → is_stored v w ≡ true → (is_weighed v w ≡ true) ⊎ ((v ≡ pos 0) × (w ≡ over_weight))
stored_parts v w h = by (is_weighed v w) refl
  where
    by : (b : Bool) → is_weighed v w ≡ b → (is_weighed v w ≡ true) ⊎ ((v ≡ pos 0) × (w ≡ over_weight))
    by true e = inl e
    by false e =
        let rest : (unsigned_abs v == 0 && w == over_weight) ≡ true = subst (λ (b : Bool). (b || (unsigned_abs v == 0 && w == over_weight)) ≡ true) e h in
        let value : unsigned_abs v ≡ 0 = grind (arith, nat_tests) in
        let weight : w ≡ over_weight = grind (arith, nat_tests) in
        inr (zero_value v value, weight)
      where
        zero_value : (v : ℤ) → unsigned_abs v ≡ 0 → v ≡ pos 0
        zero_value v h = grind (arith, ints)

pub is_number-made : (v : ℤ) (w : ℕ) → is_stored v w ≡ true → is_number (made v w) ≡ true
is_number-made v w h = by (nat_le w max_weight) refl
  where
    by : (b : Bool) → nat_le w max_weight ≡ b → is_number (cond b (number v w) over) ≡ true
    by false e = refl
    by true e = elim (stored_parts v w h) [ inl fits ↦ fits | inr rest ↦ absurd (let low : w ≤ max_weight = grind (arith, nat_tests) in omega (arith, rest.1, low)) ]

pub is_number-num_of : (a : Weighed) → is_number (num_of a) ≡ true
is_number-num_of a = is_number-made a.value a.weight a.valid

num_of-stored_if : (v : ℤ) (w : ℕ) (b : Bool) (e : is_stored v w ≡ b) → is_weighed v w ≡ true → num_of (stored_if v w b e) ≡ number v w
num_of-stored_if v w true e h = made_low v w (weight_parts v w h).1
num_of-stored_if v w false e h = absurd (let t : is_stored v w ≡ true = rw h refl in cc)

pub num_of-stored : (n : Number) → is_number n ≡ true → num_of (stored n) ≡ n
num_of-stored over h = refl
num_of-stored (number v w) h = num_of-stored_if v w (is_stored v w) refl h

pub same_weighed : (a b : Weighed) → a.value ≡ b.value → a.weight ≡ b.weight → a ≡ b
same_weighed a b e f =
    λ i. record {
      value = e i;
      weight = f i;
      valid = is_prop→PathP (λ i. is_stored (e i) (f i) ≡ true) (λ i. Bool-set _ _) a.valid b.valid i;
    }

stored_if-valid : (a : Weighed) (b : Bool) (e : is_stored a.value a.weight ≡ b) → stored_if a.value a.weight b e ≡ a
stored_if-valid a true e = same_weighed _ a refl refl
stored_if-valid a false e = absurd (cc (a.valid))

pub stored-num_of : (a : Weighed) → stored (num_of a) ≡ a
stored-num_of a = by (nat_le a.weight max_weight) refl
  where
    by : (b : Bool) → nat_le a.weight max_weight ≡ b → stored (cond b (number a.value a.weight) over) ≡ a
    by true e = stored_if-valid a (is_stored a.value a.weight) refl
    by false e =
        elim (stored_parts a.value a.weight a.valid) [
          | inl fits ↦ absurd (let low = (weight_parts a.value a.weight fits).1 in grind (arith, nat_tests))
          | inr rest ↦ same_weighed over_stored a (sym rest.0) (sym rest.1)
        ]

-- what stands for a number is its stored form
pub stored_from : (a : Weighed) (n : Number) → num_of a ≡ n → a ≡ stored n
stored_from a n e = sym (stored-num_of a) ∙ ap stored e

-- ---- the laws

pub num_sum : (a b : Weighed) → num_of (stored (plus (num_of a) (num_of b))) ≡ plus (num_of a) (num_of b)
num_sum a b = num_of-stored (plus (num_of a) (num_of b)) (is_number-plus (num_of a) (num_of b) (is_number-num_of a) (is_number-num_of b))

pub num_product : (a b : Weighed) → num_of (stored (times (num_of a) (num_of b))) ≡ times (num_of a) (num_of b)
num_product a b = num_of-stored (times (num_of a) (num_of b)) (is_number-times (num_of a) (num_of b) (is_number-num_of a) (is_number-num_of b))

pub num_top : (a b : Weighed) → num_of (stored (top (num_of a) (num_of b))) ≡ top (num_of a) (num_of b)
num_top a b = num_of-stored (top (num_of a) (num_of b)) (is_number-top (num_of a) (num_of b) (is_number-num_of a) (is_number-num_of b))

pub weighed_laws : IsSemiring weighed_semiring
weighed_laws = record {
  plus_comm = λ a b. ap stored (plus_comm (num_of a) (num_of b));
  plus_assoc = λ a b c. ap stored (ap (λ n. plus n (num_of c)) (num_sum a b) ∙ plus_assoc (num_of a) (num_of b) (num_of c) ∙ sym (ap (plus (num_of a)) (num_sum b c)));
  plus_nought = λ a. ap stored (plus_zero (num_of a) (is_number-num_of a)) ∙ stored-num_of a;
  times_comm = λ a b. ap stored (times_comm (num_of a) (num_of b));
  times_assoc = λ a b c. ap stored (ap (λ n. times n (num_of c)) (num_product a b) ∙ times_assoc (num_of a) (num_of b) (num_of c) (is_number-num_of a) (is_number-num_of b) (is_number-num_of c) ∙ sym (ap (times (num_of a)) (num_product b c)));
  times_one = λ a. ap stored (times_one (num_of a) (is_number-num_of a)) ∙ stored-num_of a;
  times_nought = λ a. ap stored (times_zero (num_of a) (is_number-num_of a));
  times_plus = λ a b c. ap stored (ap (times (num_of a)) (num_sum b c) ∙ distributes (num_of a) (num_of b) (num_of c) (is_number-num_of a) (is_number-num_of b) (is_number-num_of c) ∙ sym (λ i. plus (num_product a b i) (num_product a c i)));
  top_comm = λ a b. ap stored (top_comm (num_of a) (num_of b));
  top_assoc = λ a b c. ap stored (ap (λ n. top n (num_of c)) (num_top a b) ∙ top_assoc (num_of a) (num_of b) (num_of c) ∙ sym (ap (top (num_of a)) (num_top b c)));
  top_nought = refl;
}

-- ---- `==` is equality

pub weighed_equal : (a b : Weighed) → (int_eq a.value b.value && (a.weight == b.weight)) ≡ true → a ≡ b
weighed_equal a b h =
    let both = and_parts (int_eq a.value b.value) (a.weight == b.weight) h in
    let value_test = both.0 in
    let value : a.value ≡ b.value = grind (arith, nat_tests) in
    same_weighed a b value (eqb-true a.weight b.weight both.1)

-- ---- the conversions

pub stored_some : (a : Weighed) (v : ℤ) → unsigned_abs v ≤ max_weight → num_of a ≡ new_number v (unsigned_abs v) → Some a ≡ stored_option (file_number v)
stored_some a v low e =
    let t : nat_le (unsigned_abs v) max_weight ≡ true = grind (arith, nat_tests) in
    let u : nat_le (unsigned_abs v) (unsigned_abs v) ≡ true = grind (arith, nat_tests) in
    let made : num_of a ≡ num v = e ∙ rw (u, t) in
    rw t (ap Some (stored_from a (num v) made))

shown_over : (n : Number) → is_none (shown_number n) ≡ is_over_number n
shown_over over = refl
shown_over (number v w) = refl

new_number_as : (v : ℤ) (w : ℕ) → is_weighed v w ≡ true → new_number v w ≡ number v w
new_number_as v w h = rw h

number_of_pair : (v : ℤ) (w : ℕ) → is_weighed v w ≡ true → number_of_bytes (pair_bytes v w) ≡ number v w
number_of_pair v w h =
    let p = weight_parts v w h in
    let fits : FitsSigned w128 v = fits_signed_from_abs w128 v (omega (arith, p.0, p.1)) in
    let value_bits : of_z w128 v < 2 ^ 128 = omega (arith, ints) in
    let value : to_z w128 (from_le_bytes w128 (to_le_bytes w128 (of_z w128 v))) ≡ v = ap (to_z w128) (word_back (of_z w128 v) value_bits) ∙ to_z-of_z w128 v fits in
    let weight : from_le_bytes w128 (to_le_bytes w128 w) ≡ w = word_back w (omega (arith, p.1)) in
    (λ i. new_number (value i) (weight i)) ∙ new_number_as v w h

number_back : (n : Number) → is_number n ≡ true → number_of_bytes (number_bytes n) ≡ n
number_back over h = refl
number_back (number v w) h = number_of_pair v w h

number_length : (n : Number) → length (number_bytes n) ≡ 32
number_length over = refl
number_length (number v w) = refl

pair_bytes_below : (v : ℤ) (w : ℕ) → All (λ b. b < 256) (pair_bytes v w)
pair_bytes_below v w =
    All-append (λ b. b < 256) (to_le_bytes w128 (of_z w128 v)) (to_le_bytes w128 w) (bytes_below 0 16 (of_z w128 v)) (bytes_below 0 16 w)

number_bytes_below : (n : Number) → All (λ b. b < 256) (number_bytes n)
number_bytes_below over = pair_bytes_below (pos 0) over_weight
number_bytes_below (number v w) = pair_bytes_below v w

pub weighed_conversion_laws : AreConversions weighed_conversions
weighed_conversion_laws = record {
  shown_over = λ a. shown_over (num_of a);
  wire_back = λ a. ap stored (number_back (num_of a) (is_number-num_of a)) ∙ stored-num_of a;
  wire_length = λ a. number_length (num_of a);
  wire_bytes = λ a. number_bytes_below (num_of a);
}
