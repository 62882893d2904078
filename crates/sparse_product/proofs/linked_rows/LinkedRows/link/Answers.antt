use Rattle.std.proofs.Common.{◌+◌, ◌<◌, [], length, get_or, refl, sym, ap, ◌∙◌, arith}
use Rattle.std.specs.Prelude.{slice_get}
use Rattle.std.proofs.lemmas.Option.{slice_get_read}
use Rattle.crs_graph.specs.Packed.{slices}
use Rattle.sparse_product.proofs.Links.{at_zero, row-last, row-link, row-within}
use Rattle.sparse_product.proofs.linked_rows.LinkedRows.link.Goals as goal

pub index-requires : goal.index-requires
index-requires g c =
    let os = c.self.inside.offsets.items in
    let known : c.args.k < length (slices os c.self.inside.links.items) = omega (arith, c.requires.known, ap length c.self.view_is) in
    omega (arith, c.self.inside.offsets.ok.0, row-last os c.self.inside.links.items c.args.k c.self.invariant known)

pub index-requires-2 : goal.index-requires-2
index-requires-2 g c =
    let os = c.self.inside.offsets.items in
    let xs = c.self.inside.links.items in
    let known : c.args.k < length (slices os xs) = omega (arith, c.requires.known, ap length c.self.view_is) in
    let last = row-last os xs c.args.k c.self.invariant known in
    let inside : c.args.at < length (get_or (slices os xs) c.args.k []) = omega (arith, c.requires.within, ap (λ rs. length (get_or rs c.args.k [])) c.self.view_is) in
    omega (arith, c.self.inside.links.ok.0, row-within os xs c.args.k c.args.at c.self.invariant known inside, at_zero os c.args.k c.index.result.now (omega arith) c.index.ensures)

pub overflow_add-index : goal.overflow_add-index
overflow_add-index g c =
    let os = c.self.inside.offsets.items in
    let xs = c.self.inside.links.items in
    let known : c.args.k < length (slices os xs) = omega (arith, c.requires.known, ap length c.self.view_is) in
    let last = row-last os xs c.args.k c.self.invariant known in
    let inside : c.args.at < length (get_or (slices os xs) c.args.k []) = omega (arith, c.requires.within, ap (λ rs. length (get_or rs c.args.k [])) c.self.view_is) in
    let small = c.self.inside.links.small in
    omega (arith, c.self.inside.links.ok.0, small, row-within os xs c.args.k c.args.at c.self.invariant known inside, at_zero os c.args.k c.index.result.now (omega arith) c.index.ensures)

pub returns : goal.returns
returns g c =
    let os = c.self.inside.offsets.items in
    let xs = c.self.inside.links.items in
    let known : c.args.k < length (slices os xs) = omega (arith, c.requires.known, ap length c.self.view_is) in
    let last = row-last os xs c.args.k c.self.invariant known in
    let inside : c.args.at < length (get_or (slices os xs) c.args.k []) = omega (arith, c.requires.within, ap (λ rs. length (get_or rs c.args.k [])) c.self.view_is) in
    let from = at_zero os c.args.k c.index.result.now (omega arith) c.index.ensures in
    record {
      link = ap (λ rs. slice_get (get_or rs c.args.k []) c.args.at) (sym c.self.view_is)
          ∙ row-link os xs c.args.k c.args.at c.self.invariant known inside
          ∙ ap (λ n. slice_get xs (n + c.args.at)) (sym from)
          ∙ slice_get_read xs (length xs) (c.index.result.now + c.args.at) c.index-2.result.now refl (omega (arith, row-within os xs c.args.k c.args.at c.self.invariant known inside, from)) c.index-2.ensures;
    }
