use Rattle.std.proofs.Common.{◌+◌, ◌-◌, ◌<◌, [], length, get_or, ap, ◌∙◌, arith}
use Rattle.crs_graph.specs.Packed.{slices}
use Rattle.sparse_product.proofs.Links.{at_zero, row-last, row-length, row-ordered}
use Rattle.sparse_product.proofs.linked_rows.LinkedRows.count.Goals as goal

pub index-requires : goal.index-requires
index-requires g c =
    let os = c.self.inside.offsets.items in
    let known : c.args.k < length (slices os c.self.inside.links.items) = omega (arith, c.requires.known, ap length c.self.view_is) in
    omega (arith, c.self.inside.offsets.ok.0, row-last os c.self.inside.links.items c.args.k c.self.invariant known)

pub index-requires-2 : goal.index-requires-2
index-requires-2 g c =
    let os = c.self.inside.offsets.items in
    let known : c.args.k < length (slices os c.self.inside.links.items) = omega (arith, c.requires.known, ap length c.self.view_is) in
    omega (arith, c.self.inside.offsets.ok.0, row-last os c.self.inside.links.items c.args.k c.self.invariant known)

pub overflow_sub-result : goal.overflow_sub-result
overflow_sub-result g c =
    let os = c.self.inside.offsets.items in
    let xs = c.self.inside.links.items in
    let known : c.args.k < length (slices os xs) = omega (arith, c.requires.known, ap length c.self.view_is) in
    let last = row-last os xs c.args.k c.self.invariant known in
    omega (arith, row-ordered os xs c.args.k c.self.invariant known, at_zero os (c.args.k + 1) c.index.result.now last c.index.ensures, at_zero os c.args.k c.index-2.result.now (omega arith) c.index-2.ensures)

pub returns : goal.returns
returns g c =
    let os = c.self.inside.offsets.items in
    let xs = c.self.inside.links.items in
    let known : c.args.k < length (slices os xs) = omega (arith, c.requires.known, ap length c.self.view_is) in
    let last = row-last os xs c.args.k c.self.invariant known in
    let to = at_zero os (c.args.k + 1) c.index.result.now last c.index.ensures in
    let from = at_zero os c.args.k c.index-2.result.now (omega arith) c.index-2.ensures in
    record { count = (λ t. to t - from t) ∙ row-length os xs c.args.k c.self.invariant known ∙ ap (λ rs. length (get_or rs c.args.k [])) c.self.view_is }
