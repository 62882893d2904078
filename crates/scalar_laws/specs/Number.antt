-- Weighed numbers over unbounded integers: a value with the sum of the magnitudes that it came from, or Over.
use Rattle.std.specs.Prelude.{◌+◌, ◌*◌, ◌==◌, ◌&&◌, ◌++◌, ℕ, ℤ, pos, ◌+ℤ◌, ◌*ℤ◌, Bool, true, false, Option, Some, None, List, max, unsigned_abs, nat_le, take, drop, if◌then◌else◌}
use Rattle.std.specs.Int.{w128, cast_signed, cast_unsigned, to_le_bytes, from_le_bytes}

-- 2^127 - 1
abbrev pub max_weight : ℕ
max_weight = 170141183460469231731687303715884105727

pub data Number : Type 0 where
  over : Number
  number : ℤ → ℕ → Number

-- the pair, or Over where its weight exceeds the limit
abbrev pub made : ℤ → ℕ → Number
made v w = if nat_le w max_weight then number v w else over

abbrev pub zero_number : Number
zero_number = number (pos 0) 0

abbrev pub one_number : Number
one_number = number (pos 1) 1

-- an integer with its magnitude
abbrev pub num : ℤ → Number
num v = number v (unsigned_abs v)

abbrev pub plus : Number → Number → Number
plus over b = over
plus (number v w) over = over
plus (number v w) (number x y) = made (v +ℤ x) (w + y)

-- Over times the zero pair is the zero pair: of a number's weight 0 its value is 0
abbrev pub times : Number → Number → Number
times over over = over
times over (number x y) = if y == 0 then zero_number else over
times (number v w) over = if w == 0 then zero_number else over
times (number v w) (number x y) = made (v *ℤ x) (w * y)

-- the greater magnitude with the greater weight
abbrev pub top : Number → Number → Number
top over b = over
top (number v w) over = over
top (number v w) (number x y) = number (pos (max (unsigned_abs v) (unsigned_abs x))) (max w y)

-- the value is within the weight, and the weight within the limit
abbrev pub is_weighed : ℤ → ℕ → Bool
is_weighed v w = nat_le (unsigned_abs v) w && nat_le w max_weight

abbrev pub is_number : Number → Bool
is_number over = true
is_number (number v w) = is_weighed v w

-- the pair, or Over where it is none
abbrev pub new_number : ℤ → ℕ → Number
new_number v w = if is_weighed v w then number v w else over

-- the number of an integer of a file, within the limit
abbrev pub file_number : ℤ → Option Number
file_number v = if nat_le (unsigned_abs v) max_weight then Some (num v) else None

abbrev pub is_over_number : Number → Bool
is_over_number over = true
is_over_number (number v w) = false

-- what is printed: the value
abbrev pub shown_number : Number → Option ℤ
shown_number over = None
shown_number (number v w) = Some v

-- 2^128 - 1, the weight that stands for Over
abbrev pub over_weight : ℕ
over_weight = 340282366920938463463374607431768211455

-- value and weight in 16 bytes each, the lowest byte first
abbrev pub pair_bytes : ℤ → ℕ → List ℕ
pair_bytes v w = to_le_bytes w128 (cast_unsigned w128 v) ++ to_le_bytes w128 w

abbrev pub number_bytes : Number → List ℕ
number_bytes over = pair_bytes (pos 0) over_weight
number_bytes (number v w) = pair_bytes v w

-- the number of any 32 bytes
abbrev pub number_of_bytes : List ℕ → Number
number_of_bytes bytes = new_number (cast_signed w128 (from_le_bytes w128 (take 16 bytes))) (from_le_bytes w128 (take 16 (drop 16 bytes)))
