use Rattle.scalar_laws.specs.NumberLaws.{times_made_both}
use Rattle.scalar_laws.proofs.Sums.{number_sum-made}
use Rattle.scalar_laws.proofs.laws.over_by_weight.Goals as goal

pub returns-clause-sum : goal.returns-clause-sum
returns-clause-sum c = number_sum-made

pub returns-clause-product : goal.returns-clause-product
returns-clause-product c = times_made_both
