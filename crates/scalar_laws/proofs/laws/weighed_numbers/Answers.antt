use Rattle.std.proofs.Common.{◌∙◌, sym, ap}
use Rattle.scalar_laws.specs.Weighed.{stored}
use Rattle.scalar_laws.specs.WeighedLaws.{stored-num_of, num_product}
use Rattle.scalar_laws.proofs.laws.weighed_numbers.Goals as goal

pub returns-clause-once : goal.returns-clause-once
returns-clause-once c = λ a b e. sym (stored-num_of a) ∙ ap stored e ∙ stored-num_of b

pub returns-clause-product : goal.returns-clause-product
returns-clause-product c = num_product
