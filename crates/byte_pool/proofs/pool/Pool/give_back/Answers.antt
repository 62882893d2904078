use Rattle.std.proofs.Common.{◌<◌, ap, length, arith}
use Rattle.byte_pool.specs.Blocks.{BlockState}
use Rattle.byte_pool.proofs.Pools.{leases-freed, sizes-kept, within}
use Rattle.byte_pool.proofs.pool.Pool.give_back.Goals as goal

pub index_mut-requires : goal.index_mut-requires
index_mut-requires c =
    let l : c.lease.inside.block < length c.self.inside.blocks.items = within c.self.inside.blocks.items c.args.self.now c.lease.inside.block c.args.lease c.self.view_is c.lease.view_is c.requires in
    let whole = c.self.inside.blocks.ok in
    omega arith

pub returns-clause-leases : goal.returns-clause-leases
returns-clause-leases c =
    let l = within c.self.inside.blocks.items c.args.self.now c.lease.inside.block c.args.lease c.self.view_is c.lease.view_is c.requires in
    leases-freed c.self.inside.blocks.items c.args.self.now c.lease.inside.block c.args.lease c.take_back.new.self c.self.view_is c.lease.view_is l (ap (λ (b : BlockState). b.lent) c.take_back.ensures)

pub returns-clause-sizes : goal.returns-clause-sizes
returns-clause-sizes c =
    let l = within c.self.inside.blocks.items c.args.self.now c.lease.inside.block c.args.lease c.self.view_is c.lease.view_is c.requires in
    sizes-kept c.self.inside.blocks.items c.args.self.now c.lease.inside.block c.take_back.new.self c.index_mut.result.now c.self.view_is l c.index_mut.ensures.value (ap (λ (b : BlockState). b.size) c.take_back.ensures)
