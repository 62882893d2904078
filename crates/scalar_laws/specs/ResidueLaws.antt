-- Numbers modulo a number meet the laws.
use Rattle.std.proofs.Common.{◌≡◌, ℕ, ◌+◌, ◌*◌, ◌%◌, ◌<◌, ◌≤◌, ◌^◌, ◌==◌, ◌&&◌, true, max, arith, refl, sym, ap, ◌∙◌, add_assoc, zero-add, replicate}
use Rattle.std.proofs.Math.Nat.{add_comm, mul_comm, mul_assoc, mul-add, one-mul, zero-mul}
use Rattle.std.proofs.lemmas.Nat.{mul-mod_first, mul-mod_second, from_le_bytes-to_le_bytes_8}
use Rattle.std.proofs.lemmas.Bool.{and_parts, eqb-true}
use Rattle.std.proofs.lemmas.List.Elements.{All-append, All-replicate}
use Rattle.std.specs.Int.{w64, to_le_bytes, from_le_bytes}
use mathlib.Core.HLevel.{is_prop→PathP}
use denote.Struct.Props.{props}
use Rattle.scalar_laws.specs.Semiring.{IsSemiring}
use Rattle.scalar_laws.specs.Conversions.{AreConversions}
use Rattle.scalar_laws.specs.Remainders.{remainder_kept, remainder_first, remainder_second}
use Rattle.scalar_laws.specs.Words.{bytes_below}
use Rattle.scalar_laws.specs.Residue.{modular_semiring, value_of, residue, residue_semiring, residue_conversions}
use Rattle.scalar_laws.specs.declared.modulus.Modulus.{Ghosts}
use Rattle.scalar_laws.specs.declared.residue.Residue.{Residue}

-- values that are given by naturals below m, and made of any natural by what is left of it modulo m
pub modular_laws : {S : Type 0} (m : ℕ) (value : S → ℕ) (make : ℕ → S) → 0 < m → ((a : S) → value a < m) → ((n : ℕ) → value (make n) ≡ n % m) → ((a b : S) → value a ≡ value b → a ≡ b)
    → IsSemiring (modular_semiring value make)
modular_laws m value make some below made exact =
    record {
      plus_comm = λ a b. ap make (add_comm (value a) (value b));
      plus_assoc = λ a b c. exact _ _ (made _ ∙ ap (λ n. (n + value c) % m) (made _) ∙ remainder_first (value a + value b) (value c) m ∙ ap (λ n. n % m) (add_assoc (value a) (value b) (value c)) ∙ sym (made _ ∙ ap (λ n. (value a + n) % m) (made _) ∙ remainder_second (value a) (value b + value c) m));
      plus_nought = λ a. exact _ _ (made _ ∙ ap (λ n. (n + value a) % m) (made 0) ∙ remainder_first 0 (value a) m ∙ ap (λ n. n % m) (zero-add (value a)) ∙ kept a);
      times_comm = λ a b. ap make (mul_comm (value a) (value b));
      times_assoc = λ a b c. exact _ _ (made _ ∙ ap (λ n. (n * value c) % m) (made _) ∙ mul-mod_first (value a * value b) (value c) m ∙ ap (λ n. n % m) (mul_assoc (value a) (value b) (value c)) ∙ sym (made _ ∙ ap (λ n. (value a * n) % m) (made _) ∙ mul-mod_second (value a) (value b * value c) m));
      times_one = λ a. exact _ _ (made _ ∙ ap (λ n. (n * value a) % m) (made 1) ∙ mul-mod_first 1 (value a) m ∙ ap (λ n. n % m) (one-mul (value a)) ∙ kept a);
      times_nought = λ a. exact _ _ (made _ ∙ ap (λ n. (n * value a) % m) (made 0) ∙ mul-mod_first 0 (value a) m ∙ ap (λ n. n % m) (zero-mul (value a)) ∙ sym (made 0));
      times_plus = λ a b c. exact _ _ (made _ ∙ ap (λ n. (value a * n) % m) (made _) ∙ mul-mod_second (value a) (value b + value c) m ∙ ap (λ n. n % m) (mul-add (value a) (value b) (value c)) ∙ sym (made _ ∙ (λ t. (made (value a * value b) t + made (value a * value c) t) % m) ∙ remainder_first (value a * value b) ((value a * value c) % m) m ∙ remainder_second (value a * value b) (value a * value c) m));
      top_comm = λ a b. ap make (max_comm (value a) (value b));
      top_assoc = λ a b c. ap make (ap (λ n. max n (value c)) (greater a b) ∙ max_assoc (value a) (value b) (value c) ∙ sym (ap (max (value a)) (greater b c)));
      top_nought = ap make (ap (λ n. max n n) (made 0 ∙ remainder_kept 0 m some));
    }
  where
    kept : (a : _) → value a % m ≡ value a
    kept a = remainder_kept (value a) m (below a)

    max_below : (a b : ℕ) → a < m → b < m → max a b < m
    max_below a b h k = omega arith

    greater : (a b : _) → value (make (max (value a) (value b))) ≡ max (value a) (value b)
    greater a b = made _ ∙ remainder_kept (max (value a) (value b)) m (max_below (value a) (value b) (below a) (below b))

    max_assoc : (a b c : ℕ) → max (max a b) c ≡ max a (max b c)
    max_assoc a b c = omega arith

    max_comm : (a b : ℕ) → max a b ≡ max b a
    max_comm a b = omega arith

below_prop : (n m : ℕ) → IsProp (n < m)
below_prop n m = hlevel props

-- a residue is determined by its number
pub same_residue : {M : Type 0} {g : Ghosts M} {h : _} (a b : Residue M g h) → value_of a ≡ value_of b → a ≡ b
same_residue {g = g} a b e =
    λ i. record { value = e i; modulus = record {}; below = is_prop→PathP (λ i. e i < g.VALUE) (λ i. below_prop (e i) g.VALUE) a.below b.below i }

positive : (m : ℕ) → 2 ≤ m → 0 < m
positive m h = omega arith

pub residue_laws : {M : Type 0} {g : Ghosts M} {h : _} (some : 2 ≤ g.VALUE) → IsSemiring (residue_semiring {M = M} {g = g} {h = h} some)
residue_laws {M = M} {g = g} {h = h} some =
    modular_laws g.VALUE value_of (residue some) (positive g.VALUE some) (λ (a : Residue M g h). a.below) (λ n. refl) same_residue

pub residue_equal : {M : Type 0} {g : Ghosts M} {h : _} (a b : Residue M g h) → ((a.value == b.value) && true) ≡ true → a ≡ b
residue_equal a b e = same_residue a b (eqb-true a.value b.value (and_parts (a.value == b.value) true e).0)

-- ---- the conversions

word_kept : (v m : ℕ) → v < m → m ≤ 2 ^ 63 → from_le_bytes w64 (to_le_bytes w64 v) % m ≡ v
word_kept v m h many = ap (λ n. n % m) (from_le_bytes-to_le_bytes_8 v (omega arith)) ∙ remainder_kept v m h

pub residue_conversion_laws : {M : Type 0} {g : Ghosts M} {h : _} (some : 2 ≤ g.VALUE) → g.VALUE ≤ 2 ^ 63 → AreConversions (residue_conversions {M = M} {g = g} {h = h} some)
residue_conversion_laws {g = g} some many =
    record {
      shown_over = λ a. refl;
      wire_back = λ a. same_residue _ a (word_kept a.value g.VALUE a.below many);
      wire_length = λ a. refl;
      wire_bytes = λ a. All-append (λ b. b < 256) (to_le_bytes w64 a.value) (replicate 24 0) (bytes_below 0 8 a.value) (All-replicate (λ b. b < 256) 24 0 (omega arith));
    }
