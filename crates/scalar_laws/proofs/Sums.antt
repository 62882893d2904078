-- A sum of many weighed numbers is made of the sums of their parts.
use Rattle.std.proofs.Common.{◌≡◌, ℕ, ℤ, List, [], ◌∷◌, refl, ap, ◌∙◌}
use Rattle.scalar_laws.specs.Number.{made, plus}
use Rattle.scalar_laws.specs.NumberLaws.{plus_made}
use Rattle.scalar_laws.specs.NumberSums.{number_sum, value_sum, weight_sum}

pub number_sum-made : (ts : List (ℤ × ℕ)) → number_sum ts ≡ made (value_sum ts) (weight_sum ts)
number_sum-made [] = refl
number_sum-made (t ∷ ts) = ap (plus (made t.0 t.1)) (number_sum-made ts) ∙ plus_made t.0 t.1 (value_sum ts) (weight_sum ts)
