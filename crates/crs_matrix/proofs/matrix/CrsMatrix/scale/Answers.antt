use Rattle.std.proofs.Common.{◌≡◌, length, map, sym, ap, ◌∙◌}
use Rattle.std.proofs.lemmas.List.{with_items_is}
use Rattle.crs_matrix.specs.Matrices.{crs_table, scaled}
use Rattle.crs_matrix.proofs.CrsTables.{crs_of, table-scaled}
use Rattle.crs_matrix.proofs.matrix.CrsMatrix.scale.Goals as goal

pub returns-clause-numbers : goal.returns-clause-numbers
returns-clause-numbers g c =
    let R = g.S.Scalar.semiring in
    let h = c.self.inside.graph.value in
    let values = c.self.inside.values.items in
    let size : length c.multiply.new.values ≡ c.self.inside.values.len = c.multiply.auto.values ∙ ap length c.deref_mut.ensures.value ∙ sym c.self.inside.values.ok.0 in
    let new = with_items_is c.self.inside.values c.multiply.new.values size ∙ c.multiply.ensures.multiplied ∙ ap (map (λ v. R.times c.args.alpha v)) c.deref_mut.ensures.value in
    ap (λ vs. crs_table (crs_of h vs)) new ∙ table-scaled R c.args.alpha h values ∙ ap (λ m. scaled R c.args.alpha (crs_table m)) c.self.view_is
