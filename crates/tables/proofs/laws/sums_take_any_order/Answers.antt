use Rattle.tables.proofs.Permutations.{total-IsPermutation}
use Rattle.tables.proofs.laws.sums_take_any_order.Goals as goal

pub returns : goal.returns
returns g c = λ M law f xs ys h. total-IsPermutation law f xs ys h
