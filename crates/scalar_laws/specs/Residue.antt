-- Numbers modulo m, each by the number below m that it has.
use Rattle.std.specs.Prelude.{ℕ, ◌+◌, ◌*◌, ◌%◌, ◌≤◌, ◌++◌, pos, false, max, Some, take, replicate, unsigned_abs}
use Rattle.std.specs.Int.{w64, int_rem_euclid, to_le_bytes, from_le_bytes}
use Rattle.scalar_laws.specs.Semiring.{Semiring}
use Rattle.scalar_laws.specs.Conversions.{Conversions}
use Rattle.scalar_laws.specs.Remainders.{remainder_below}
use Rattle.scalar_laws.specs.declared.modulus.Modulus.{Ghosts}
use Rattle.scalar_laws.specs.declared.residue.Residue.{Residue}

-- a kind of number whose values are given by naturals, and made of them
abbrev pub modular_semiring : {S : Type 0} → (S → ℕ) → (ℕ → S) → Semiring S
modular_semiring value make = record {
  nought = make 0;
  one = make 1;
  plus = λ a b. make (value a + value b);
  times = λ a b. make (value a * value b);
  top = λ a b. make (max (value a) (value b));
}

-- it is never over, and is shown and written as the natural; an integer of a file is reduced to the natural below m
abbrev pub modular_conversions : {S : Type 0} → ℕ → (S → ℕ) → (ℕ → S) → Conversions S
modular_conversions m value make = record {
  of_file = λ v. Some (make (unsigned_abs (int_rem_euclid v (pos m))));
  is_over = λ _. false;
  shown = λ a. Some (pos (value a));
  to_wire = λ a. to_le_bytes w64 (value a) ++ replicate 24 0;
  of_wire = λ bytes. make (from_le_bytes w64 (take 8 bytes));
}

abbrev pub value_of : {M : Type 0} {g : Ghosts M} {h : _} → Residue M g h → ℕ
value_of a = a.value

-- the residue of a number
abbrev pub residue : {M : Type 0} {g : Ghosts M} {h : _} → 2 ≤ g.VALUE → ℕ → Residue M g h
residue {g = g} some n = record { value = n % g.VALUE; modulus = record {}; below = remainder_below n g.VALUE some }

abbrev pub residue_semiring : {M : Type 0} {g : Ghosts M} {h : _} → 2 ≤ g.VALUE → Semiring (Residue M g h)
residue_semiring some = modular_semiring value_of (residue some)

abbrev pub residue_conversions : {M : Type 0} {g : Ghosts M} {h : _} → 2 ≤ g.VALUE → Conversions (Residue M g h)
residue_conversions {g = g} some = modular_conversions g.VALUE value_of (residue some)
