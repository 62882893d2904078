use Rattle.std.proofs.Common.{◌≡◌, ◌∙◌, rules}
use Rattle.multivector.specs.Vectors.{combined_values}
use Rattle.multivector.proofs.Cells.{sum-clause, sum-vector}
use Rattle.multivector.proofs.multi_vector.MultiVector.combined.Goals as goal

pub invariant_of-result : goal.invariant_of-result
invariant_of-result g c =
    let values : c.in_ok-values.values.items ≡ combined_values g.S.Scalar.semiring c.args.alpha c.x.inside.values.items c.args.beta c.y.inside.values.items = search rules in
    sum-vector g.S.Scalar.semiring c.args.alpha c.args.beta _ c.args.y.now _ c.args.x.now c.in_ok-clone.field-0.value c.in_ok-values.values.items
    c.y.view_is c.x.view_is c.y.invariant c.x.invariant c.requires.map c.requires.columns c.in_ok-clone.ensures.cases values

pub returns-clause-cells : goal.returns-clause-cells
returns-clause-cells g c =
    let values : c.in_ok-values.values.items ≡ combined_values g.S.Scalar.semiring c.args.alpha c.x.inside.values.items c.args.beta c.y.inside.values.items = search rules in
    sum-clause g.S.Scalar.semiring c.args.alpha c.args.beta _ c.args.y.now _ c.args.x.now c.in_ok-clone.field-0.value c.in_ok-values.values.items
    c.y.view_is c.x.view_is c.y.invariant c.x.invariant c.requires.map c.requires.columns c.in_ok-clone.ensures.cases values
