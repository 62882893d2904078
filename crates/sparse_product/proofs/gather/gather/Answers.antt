use Rattle.std.proofs.Common.{length, get_or, take, sym, subst, arith}
use Rattle.std.specs.List.{zip}
use Rattle.std.proofs.lemmas.List.{take_all}
use Rattle.sparse_product.proofs.Gathered.{summed-more, summed-none, IsSummed}
use Rattle.sparse_product.proofs.Links.{below-at, length_zip, slice_get-zip, take_push}
use Rattle.sparse_product.proofs.gather.gather.Goals as goal

pub loop-i-init : goal.loop-i-init
loop-i-init g c = summed-none g.S.Scalar.semiring g.met.S.Scalar.laws c.args.links.now c.args.row.now

pub add_scaled-requires-clause-known : goal.add_scaled-requires-clause-known
add_scaled-requires-clause-known g c = below-at (length c.args.links.now) c.args.ks.now c.loop-i.i c.requires.known c.loop-i-test.true

pub loop-i-preserved : goal.loop-i-preserved
loop-i-preserved g c =
    let terms = zip c.args.ks.now c.args.factors.now in
    let low = c.loop-i-test.true in
    let at = slice_get-zip c.args.ks.now c.args.factors.now c.loop-i.i c.index-factors-i.result low (omega (arith, c.requires.each)) c.index-factors-i.is in
    subst (λ ts. IsSummed g.S.Scalar.semiring c.args.links.now ts c.args.row.now c.add_scaled.new.row) (sym (take_push c.loop-i.i terms (get_or c.args.ks.now c.loop-i.i 0, c.index-factors-i.result) at))
    (summed-more g.S.Scalar.semiring g.met.S.Scalar.laws c.args.links.now (take c.loop-i.i terms) (get_or c.args.ks.now c.loop-i.i 0) c.index-factors-i.result c.args.row.now c.loop-i.row c.add_scaled.new.row
    c.loop-i.invariant c.in_ok-add_scaled.ensures.size c.in_ok-add_scaled.ensures.sum)

pub returns : goal.returns
returns g c =
    let terms = zip c.args.ks.now c.args.factors.now in
    let past = c.loop-i-test.false in
    let many = length_zip c.args.ks.now c.args.factors.now c.requires.each in
    let whole = subst (λ ts. IsSummed g.S.Scalar.semiring c.args.links.now ts c.args.row.now c.loop-i.row) (take_all c.loop-i.i terms (omega arith)) c.loop-i.invariant in
    record { size = whole.size; sum = whole.sum }
