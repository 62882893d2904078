use Rattle.std.proofs.Common.{rules, ◌≡◌, ◌∙◌, sym, ap, length}
use Rattle.std.specs.Vec.{with_items}
use Rattle.std.proofs.lemmas.List.{with_items_is}
use Rattle.multivector.specs.Vectors.{combined_values}
use Rattle.multivector.proofs.Cells.{update-clause}
use Rattle.multivector.proofs.multi_vector.MultiVector.update.Goals as goal

pub returns-clause-cells : goal.returns-clause-cells
returns-clause-cells g c =
    let values : c.combine_values.new.values ≡ combined_values g.S.Scalar.semiring c.args.alpha c.v.inside.values.items c.args.beta c.self.inside.values.items = search rules in
    let size : length c.combine_values.new.values ≡ c.self.inside.values.len = c.combine_values.auto.values ∙ ap length c.deref_mut.ensures.value ∙ sym c.self.inside.values.ok.0 in
    update-clause g.S.Scalar.semiring c.args.alpha c.args.beta _ c.args.self.now _ c.args.v.now (with_items c.self.inside.values c.combine_values.new.values).items
    c.self.view_is c.v.view_is c.self.invariant c.v.invariant c.requires.map c.requires.columns (with_items_is c.self.inside.values c.combine_values.new.values size ∙ values)
