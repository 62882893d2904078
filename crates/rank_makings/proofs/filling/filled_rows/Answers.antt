use Rattle.std.proofs.Common.{sym, ◌∙◌}
use Rattle.rank_makings.proofs.Filled.{filled-as-came}
use Rattle.rank_makings.proofs.Makings.{sends-product, sends-sum}
use Rattle.rank_makings.proofs.filling.filled_rows.Goals as goal

pub filled_product-requires-clause-kind : goal.filled_product-requires-clause-kind
filled_product-requires-clause-kind g c = sends-product c.requires.can.1.1.1.1.1.sender (sym c.is_product.ensures.product ∙ c.if-is_product.true)

pub filled_sum-requires-clause-kind : goal.filled_sum-requires-clause-kind
filled_sum-requires-clause-kind g c = sends-sum c.requires.can.1.1.1.1.1.sender (sym c.is_sum.ensures.sum ∙ c.if-is_sum.true)

pub returns : goal.returns
returns g c = record {
  filled = λ files me share shapes given can. filled-as-came can (sym c.is_product.ensures.product ∙ c.if-is_product.false) (sym c.is_sum.ensures.sum ∙ c.if-is_sum.false);
}
