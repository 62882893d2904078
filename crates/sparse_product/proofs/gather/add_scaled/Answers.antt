use Rattle.std.proofs.Common.{[], length, get_or, take, sym, subst, arith}
use Rattle.std.proofs.lemmas.List.{take_all}
use Rattle.sparse_product.proofs.Gathered.{gathered-more, gathered-none, IsGathered}
use Rattle.sparse_product.proofs.Links.{take_push, AreLinks-at}
use Rattle.sparse_product.proofs.gather.add_scaled.Goals as goal

pub loop-at-init : goal.loop-at-init
loop-at-init g c = gathered-none g.S.Scalar.semiring g.met.S.Scalar.laws c.args.factor c.args.row.now

pub add-requires : goal.add-requires
add-requires g c =
    let low = AreLinks-at (length c.args.row.now) (get_or c.args.links.now c.args.k []) c.loop-at.at c.link-place.result c.requires.within c.link-place.ensures.link in
    record { known = omega (arith, c.loop-at.invariant.size, low) }

pub loop-at-preserved : goal.loop-at-preserved
loop-at-preserved g c =
    let row = get_or c.args.links.now c.args.k [] in
    let low = AreLinks-at (length c.args.row.now) row c.loop-at.at c.link-place.result c.requires.within c.link-place.ensures.link in
    subst (λ ls. IsGathered g.S.Scalar.semiring c.args.factor ls c.args.row.now c.add.new.self) (sym (take_push c.loop-at.at row c.link-place.result c.link-place.ensures.link))
    (gathered-more g.S.Scalar.semiring g.met.S.Scalar.laws c.args.factor (take c.loop-at.at row) c.args.row.now c.loop-at.row c.add.new.self c.link-place.result.0 c.link-place.result.1 c.mul.result
    c.loop-at.invariant low c.mul.ensures c.in_ok-add.ensures.sum)

pub returns : goal.returns
returns g c =
    let row = get_or c.args.links.now c.args.k [] in
    let past = c.loop-at-test.false in
    let count = c.count-at-end.ensures.count in
    let whole = subst (λ ls. IsGathered g.S.Scalar.semiring c.args.factor ls c.args.row.now c.loop-at.row) (take_all c.loop-at.at row (omega arith)) c.loop-at.invariant in
    record { size = whole.size; sum = whole.sum }
