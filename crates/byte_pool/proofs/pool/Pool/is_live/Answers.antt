use Rattle.std.proofs.Common.{◌∙◌, ◌<◌, ◌≤◌, List, ap, sym, subst, length, get_or}
use Rattle.std.specs.Prelude.{is_some}
use Rattle.byte_pool.specs.Blocks.{BlockState}
use Rattle.byte_pool.proofs.Pools.{lease-of, leases-beyond}
use Rattle.byte_pool.proofs.pool.Pool.is_live.Goals as goal

pub returns-in-Some : goal.returns-in-Some
returns-in-Some c =
    let whole = c.deref.ensures.value in
    let found = c.in-Some.ensures.lookup in
    let l = subst (λ (bs : List BlockState). c.lease.inside.block < length bs) whole found.3.0 in
    c.is_lent.ensures
    ∙ ap is_some (sym (lease-of c.self.inside.blocks.items c.args.self.now c.lease.inside.block c.args.lease.now c.in-Some.block.now c.self.view_is c.lease.view_is l
    (found.1 ∙ ap (λ bs. get_or bs c.lease.inside.block c.in-Some.block.now) whole)))

pub returns-in-None : goal.returns-in-None
returns-in-None c =
    let l = subst (λ (bs : List BlockState). length bs ≤ c.lease.inside.block) c.deref.ensures.value c.in-None.ensures.lookup.3 in
    ap is_some (sym (leases-beyond c.self.inside.blocks.items c.args.self.now c.lease.inside.block c.args.lease.now c.self.view_is c.lease.view_is l))
