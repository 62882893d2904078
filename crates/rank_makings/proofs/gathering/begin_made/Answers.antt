use Rattle.std.proofs.Common.{sym, ◌∙◌}
use Rattle.rank_makings.proofs.Makings.{made-gathered, made-product, made-sum, made-transpose}
use Rattle.rank_makings.proofs.gathering.begin_made.Goals as goal

pub begin_transposed-requires-clause-kind : goal.begin_transposed-requires-clause-kind
begin_transposed-requires-clause-kind g c = made-transpose c.requires.kind (sym c.is_transpose.ensures.transpose ∙ c.if-is_transpose.true)

pub begin_product-requires-clause-kind : goal.begin_product-requires-clause-kind
begin_product-requires-clause-kind g c = made-product c.requires.kind (sym c.is_product.ensures.product ∙ c.if-is_product.true)

pub begin_sum-requires-clause-kind : goal.begin_sum-requires-clause-kind
begin_sum-requires-clause-kind g c = made-sum c.requires.kind (sym c.is_sum.ensures.sum ∙ c.if-is_sum.true)

pub begin_gathered-requires-clause-kind : goal.begin_gathered-requires-clause-kind
begin_gathered-requires-clause-kind g c =
    made-gathered c.requires.kind (sym c.is_transpose.ensures.transpose ∙ c.if-is_transpose.false) (sym c.is_product.ensures.product ∙ c.if-is_product.false)
    (sym c.is_sum.ensures.sum ∙ c.if-is_sum.false)
