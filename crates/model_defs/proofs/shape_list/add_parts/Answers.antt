use Rattle.std.proofs.Common.{◌≡◌, map, take, get_or, length, sym, ap, ◌∙◌, arith}
use Rattle.std.proofs.lemmas.List.{map_more}
use Rattle.model_defs.specs.declared.shape.Sort.TheVariants.{Parts}
use Rattle.model_defs.specs.Makers.{GivenParts}
use Rattle.model_defs.specs.ShapeLists.{shapes_from, next_shape}
use Rattle.model_defs.proofs.ShapeLists.{shapes_from-push}
use Rattle.model_defs.proofs.shape_list.add_parts.Goals as goal

pub loop-spec-preserved : goal.loop-spec-preserved
loop-spec-preserved c =
    let start = c.args.shapes.now.items in
    let items = c.loop-spec.shapes.items in
    let specs = c.args.specs.now in
    let at = c.loop-spec.spec-index in
    let spec = c.spec-item.result in
    let count : c.len-structure.result ≡ length items = (let len = c.len-structure.ensures in let ok = c.loop-spec.shapes.ok.0 in omega arith) in
    shapes_from-push start items c.push.new.self.items (map GivenParts (take at specs)) (GivenParts (get_or specs at spec)) _ c.loop-spec.invariant c.in_ok-push.ensures.items
    (ap (λ k. record { sort = Parts; rows = spec.map; domain = spec.map; columns = spec.columns; structure = k }) count ∙ ap (λ s. next_shape items (GivenParts s)) c.spec-item.is)
    ∙ ap (shapes_from start) (sym (map_more GivenParts specs at spec c.loop-spec-test.true))
