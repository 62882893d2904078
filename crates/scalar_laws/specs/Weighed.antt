-- A weighed number of the code as one over unbounded integers, and back. Its operations and its conversions are those of numbers.
use Rattle.std.specs.Prelude.{◌≡◌, ℕ, ℤ, pos, Bool, true, false, Option, Some, None, refl}
use Rattle.scalar_laws.specs.Semiring.{Semiring}
use Rattle.scalar_laws.specs.Conversions.{Conversions}
use Rattle.scalar_laws.specs.Number.{Number, number, over, made, zero_number, one_number, plus, times, top, file_number, is_over_number, shown_number, number_bytes, number_of_bytes, over_weight}
use Rattle.scalar_laws.specs.Stored.{is_stored}
use Rattle.scalar_laws.specs.declared.weighed.Weighed.{Weighed}

abbrev pub num_of : Weighed → Number
num_of a = made a.value a.weight

abbrev pub over_stored : Weighed
over_stored = record { value = pos 0; weight = over_weight; valid = refl }

abbrev pub stored_if : (v : ℤ) (w : ℕ) (b : Bool) → is_stored v w ≡ b → Weighed
stored_if v w true e = record { value = v; weight = w; valid = e }
stored_if v w false e = over_stored

-- the stored form of a number
abbrev pub stored : Number → Weighed
stored over = over_stored
stored (number v w) = stored_if v w (is_stored v w) refl

abbrev pub stored_option : Option Number → Option Weighed
stored_option None = None
stored_option (Some n) = Some (stored n)

-- what `Scalar` computes with
abbrev pub weighed_semiring : Semiring Weighed
weighed_semiring = record {
  nought = stored zero_number;
  one = stored one_number;
  plus = λ a b. stored (plus (num_of a) (num_of b));
  times = λ a b. stored (times (num_of a) (num_of b));
  top = λ a b. stored (top (num_of a) (num_of b));
}

-- how it is read, shown and written
abbrev pub weighed_conversions : Conversions Weighed
weighed_conversions = record {
  of_file = λ v. stored_option (file_number v);
  is_over = λ a. is_over_number (num_of a);
  shown = λ a. shown_number (num_of a);
  to_wire = λ a. number_bytes (num_of a);
  of_wire = λ bytes. stored (number_of_bytes bytes);
}
