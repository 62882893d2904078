use Rattle.std.proofs.Common.{◌≡◌, map, take, get_or, length, cond, sym, ap, ◌∙◌, arith}
use Rattle.std.proofs.lemmas.List.{map_more}
use Rattle.model_defs.specs.declared.shape.Sort.TheVariants.{Split, Matrix}
use Rattle.model_defs.specs.Makers.{GivenMatrix}
use Rattle.model_defs.specs.ShapeLists.{shapes_from, next_shape}
use Rattle.model_defs.proofs.ShapeLists.{shapes_from-push}
use Rattle.model_defs.proofs.shape_list.add_matrices.Goals as goal
use Rattle.model_defs.proofs.shape_list.add_matrices.Goals.{then-spec, else-spec}

pub loop-spec-preserved : goal.loop-spec-preserved
loop-spec-preserved c =
    let start = c.args.shapes.now.items in
    let items = c.loop-spec.shapes.items in
    let specs = c.args.specs.now in
    let at = c.loop-spec.spec-index in
    let spec = c.spec-item.result in
    let count : c.len-structure.result ≡ length items = (let len = c.len-structure.ensures in let ok = c.loop-spec.shapes.ok.0 in omega arith) in
    let sort : c.if-spec.sort ≡ cond spec.split Split Matrix = elim c.if-spec.branch [
      | then-spec w ↦ w.sort-is ∙ sym (ap (λ b. cond b Split Matrix) w.if-spec.true)
      | else-spec w ↦ w.sort-is ∙ sym (ap (λ b. cond b Split Matrix) w.if-spec.false)
    ] in
    shapes_from-push start items c.push.new.self.items (map GivenMatrix (take at specs)) (GivenMatrix (get_or specs at spec)) _ c.loop-spec.invariant c.in_ok-push.ensures.items
    ((λ i. record { sort = sort i; rows = spec.rows; domain = spec.domain; columns = 0; structure = count i }) ∙ ap (λ s. next_shape items (GivenMatrix s)) c.spec-item.is)
    ∙ ap (shapes_from start) (sym (map_more GivenMatrix specs at spec c.loop-spec-test.true))
