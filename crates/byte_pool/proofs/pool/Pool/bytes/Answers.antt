use Rattle.std.proofs.Common.{◌∙◌, ◌<◌, subst, length, arith}
use Rattle.std.specs.Prelude.{IsSome}
use Rattle.byte_pool.proofs.Pools.{lease-of, within}
use Rattle.byte_pool.proofs.pool.Pool.bytes.Goals as goal

pub index-requires : goal.index-requires
index-requires c =
    let l : c.lease.inside.block < length c.self.inside.blocks.items = within c.self.inside.blocks.items c.args.self.now c.lease.inside.block c.args.lease.now c.self.view_is c.lease.view_is c.requires in
    let whole = c.self.inside.blocks.ok in
    omega arith

pub bytes-requires : goal.bytes-requires
bytes-requires c =
    let l = within c.self.inside.blocks.items c.args.self.now c.lease.inside.block c.args.lease.now c.self.view_is c.lease.view_is c.requires in
    subst (λ o. IsSome o) (lease-of c.self.inside.blocks.items c.args.self.now c.lease.inside.block c.args.lease.now c.index.result.now c.self.view_is c.lease.view_is l c.index.ensures) c.requires

pub returns : goal.returns
returns c =
    let l = within c.self.inside.blocks.items c.args.self.now c.lease.inside.block c.args.lease.now c.self.view_is c.lease.view_is c.requires in
    lease-of c.self.inside.blocks.items c.args.self.now c.lease.inside.block c.args.lease.now c.index.result.now c.self.view_is c.lease.view_is l c.index.ensures ∙ c.bytes.ensures
