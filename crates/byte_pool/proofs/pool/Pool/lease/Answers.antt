use Rattle.std.proofs.Common.{◌≡◌, ◌∙◌, ◌<◌, refl, ap, sym, subst, length, get_or, List, arith}
use Rattle.std.specs.Prelude.{count_by}
use Rattle.byte_pool.specs.Blocks.{BlockState, has_room}
use Rattle.byte_pool.specs.Leases.{IsLeastRoom}
use Rattle.byte_pool.proofs.Pools.{free-lent, lease-of, least_is, leases-lent, no_room, sizes-kept}
use Rattle.byte_pool.proofs.pool.Pool.lease.Goals as goal

pub unreachable-requires : goal.unreachable-requires
unreachable-requires c =
    let none : count_by (has_room c.args.len) c.args.self.now ≡ 0 =
    ap (count_by (has_room c.args.len)) (sym c.self.view_is ∙ sym c.deref.ensures.value) ∙ no_room c.args.len c.deref.result.now c.in_default.ensures.none in
    let some = c.requires in
    omega arith

pub returns-clause-least : goal.returns-clause-least
returns-clause-least c =
    let of_those = c.least_room-block.ensures in
    subst (λ bs. IsLeastRoom c.args.len bs c.least_room-block.result) (c.deref-2.ensures.value ∙ c.self.view_is)
    (least_is c.args.len c.deref-2.result.now c.least_room-block.result c.index_mut.result.now of_those.within (of_those.fits c.index_mut.result.now) of_those.least of_those.earlier)

pub returns-clause-fresh : goal.returns-clause-fresh
returns-clause-fresh c =
    let l = subst (λ (bs : List BlockState). c.least_room-block.result < length bs) c.deref-2.ensures.value c.least_room-block.ensures.within in
    lease-of c.self.inside.blocks.items c.args.self.now c.least_room-block.result c.least_room-block.result c.index_mut.result.now c.self.view_is refl l c.index_mut.ensures.value
    ∙ free-lent c.args.len c.index_mut.result.now (ap (has_room c.args.len) (c.index_mut.ensures.value ∙ ap (λ bs. get_or bs c.least_room-block.result c.index_mut.result.now) (sym c.deref-2.ensures.value)) ∙ c.least_room-block.ensures.fits c.index_mut.result.now)

pub returns-clause-lent : goal.returns-clause-lent
returns-clause-lent c =
    let l = subst (λ (bs : List BlockState). c.least_room-block.result < length bs) c.deref-2.ensures.value c.least_room-block.ensures.within in
    let lent = c.lend.ensures in (
      lent.0,
      lent.1,
      leases-lent c.self.inside.blocks.items c.args.self.now c.least_room-block.result c.least_room-block.result c.lend.new.self lent.0 c.self.view_is refl l (ap (λ (b : BlockState). b.lent) lent.2),
    )

pub returns-clause-sizes : goal.returns-clause-sizes
returns-clause-sizes c =
    let l = subst (λ (bs : List BlockState). c.least_room-block.result < length bs) c.deref-2.ensures.value c.least_room-block.ensures.within in
    sizes-kept c.self.inside.blocks.items c.args.self.now c.least_room-block.result c.lend.new.self c.index_mut.result.now c.self.view_is l c.index_mut.ensures.value (ap (λ (b : BlockState). b.size) c.lend.ensures.2)
