use Rattle.rank_makings.proofs.Completed.{if-both}
use Rattle.rank_makings.proofs.Filled.{factor-rows, factor-there, product-filled}
use Rattle.rank_makings.proofs.filling.filled_product.Goals as goal

pub matrix_at-requires : goal.matrix_at-requires
matrix_at-requires g c = record { matrix = factor-there c.requires.can.1.1.1.1.1 c.requires.kind (c.factors_of-said.ensures.said c.requires.kind) }

pub local_product-requires : goal.local_product-requires
local_product-requires g c = record { columns = factor-rows c.requires.can.1.1.1.1.1 c.requires.kind (c.factors_of-said.ensures.said c.requires.kind) c.matrix_at.ensures.at }

pub returns : goal.returns
returns g c = record {
  filled = if-both c.local_product.result c.local_product.ensures.rows c.local_product.ensures.product (λ fill rows table. λ files me share shapes given can.
      product-filled can c.requires.kind (c.factors_of-said.ensures.said c.requires.kind) c.matrix_at.ensures.at fill rows table);
}
