-- Sums of many weighed numbers.
use Rattle.std.specs.Prelude.{◌+◌, ℕ, ℤ, pos, ◌+ℤ◌, List, [], ◌∷◌}
use Rattle.scalar_laws.specs.Number.{Number, made, zero_number, plus}

-- the sum of the numbers of pairs
abbrev pub number_sum : List (ℤ × ℕ) → Number
number_sum [] = zero_number
number_sum (t ∷ ts) = plus (made t.0 t.1) (number_sum ts)

abbrev pub value_sum : List (ℤ × ℕ) → ℤ
value_sum [] = pos 0
value_sum (t ∷ ts) = t.0 +ℤ value_sum ts

abbrev pub weight_sum : List (ℤ × ℕ) → ℕ
weight_sum [] = 0
weight_sum (t ∷ ts) = t.1 + weight_sum ts
