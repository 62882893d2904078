use Rattle.std.proofs.Common.{refl, ap, ◌∙◌}
use Rattle.rank_makings.proofs.GatheredRows.{left-there, product-begun, product-moves, product-targets, right-there}
use Rattle.rank_makings.proofs.gathering.begin_product.Goals as goal

pub matrix_at-a-requires : goal.matrix_at-a-requires
matrix_at-a-requires g c = record { matrix = left-there c.requires.can.1.1 c.requires.kind (c.factors_of-said.ensures.said c.requires.kind) }

pub matrix_at-b-requires : goal.matrix_at-b-requires
matrix_at-b-requires g c = record { matrix = right-there c.requires.can.1.1 c.requires.kind (c.factors_of-said.ensures.said c.requires.kind) }

pub begin-requires-clause-own : goal.begin-requires-clause-own
begin-requires-clause-own g c =
    product-moves c.requires.can.1.1 c.requires.kind (c.factors_of-said.ensures.said c.requires.kind) c.matrix_at-a.ensures.at c.matrix_at-b.ensures.at c.matrix_is_source.ensures.same
    c.in_ok-plan.ensures.same (c.in_ok-clone.ensures.cases ∙ c.col_map.ensures.cols ∙ ap (λ g. g.cols) (c.deref.ensures ∙ c.graph.ensures.graph)) c.in_ok-empty.ensures.empty

pub begin-requires-clause-targets : goal.begin-requires-clause-targets
begin-requires-clause-targets g c =
    product-targets c.requires.can.1.1 c.requires.kind (c.factors_of-said.ensures.said c.requires.kind) c.matrix_at-a.ensures.at c.matrix_at-b.ensures.at c.matrix_is_source.ensures.same
    c.in_ok-plan.ensures.same (c.in_ok-clone.ensures.cases ∙ c.col_map.ensures.cols ∙ ap (λ g. g.cols) (c.deref.ensures ∙ c.graph.ensures.graph)) c.in_ok-empty.ensures.empty

pub returns : goal.returns
returns g c = record {
  begun = λ files given can.
      let begun = c.in_ok-arriving.ensures in
      product-begun can c.requires.kind (c.factors_of-said.ensures.said c.requires.kind) c.matrix_at-a.ensures.at c.matrix_at-b.ensures.at c.matrix_is_source.ensures.same
      c.in_ok-plan.ensures.same (c.in_ok-clone.ensures.cases ∙ c.col_map.ensures.cols ∙ ap (λ g. g.cols) (c.deref.ensures ∙ c.graph.ensures.graph)) c.in_ok-empty.ensures.empty c.matrix_is_source.ensures.table _ refl
      begun.plan begun.mode begun.rows begun.table;
}
