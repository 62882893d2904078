use Rattle.std.proofs.Common.{◌∙◌, ◌<◌, refl, subst, length, arith}
use Rattle.std.specs.Prelude.{IsSome}
use Rattle.byte_pool.proofs.Pools.{is_written, lease-of, within}
use Rattle.byte_pool.proofs.pool.Pool.bytes_mut.Goals as goal

pub index_mut-requires : goal.index_mut-requires
index_mut-requires c =
    let l : c.lease.inside.block < length c.self.inside.blocks.items = within c.self.inside.blocks.items c.args.self.now c.lease.inside.block c.args.lease.now c.self.view_is c.lease.view_is c.requires in
    let whole = c.self.inside.blocks.ok in
    omega arith

pub bytes_mut-requires : goal.bytes_mut-requires
bytes_mut-requires c =
    let l = within c.self.inside.blocks.items c.args.self.now c.lease.inside.block c.args.lease.now c.self.view_is c.lease.view_is c.requires in
    subst (λ o. IsSome o) (lease-of c.self.inside.blocks.items c.args.self.now c.lease.inside.block c.args.lease.now c.index_mut.result.now c.self.view_is c.lease.view_is l c.index_mut.ensures.value) c.requires

pub returns : goal.returns
returns c =
    let l = within c.self.inside.blocks.items c.args.self.now c.lease.inside.block c.args.lease.now c.self.view_is c.lease.view_is c.requires in (
      (refl, λ w. is_written c.self.inside.blocks.items c.args.self.now c.lease.inside.block c.args.lease.now c.index_mut.result.now w c.self.view_is c.lease.view_is l c.index_mut.ensures.value),
      record {
        writes_back = tt;
        value = lease-of c.self.inside.blocks.items c.args.self.now c.lease.inside.block c.args.lease.now c.index_mut.result.now c.self.view_is c.lease.view_is l c.index_mut.ensures.value ∙ c.bytes_mut.ensures.value;
      },
    )
