use Rattle.std.proofs.Common.{◌∙◌, ap}
use Rattle.byte_pool.specs.Leases.{leases, with_lease}
use Rattle.byte_pool.proofs.Pools.{leases-written, sizes-written}
use Rattle.byte_pool.proofs.pool.Pool.write.Goals as goal

pub returns-clause-leases : goal.returns-clause-leases
returns-clause-leases c =
    leases-written c.args.self.now c.args.lease.now c.bytes_mut.result.now c.copy_from_slice.new.self c.bytes_mut.ensures.value c.copy_from_slice.ensures.len
    ∙ ap (with_lease (leases c.args.self.now) c.args.lease.now) c.copy_from_slice.ensures.after

pub returns-clause-sizes : goal.returns-clause-sizes
returns-clause-sizes c = sizes-written c.args.self.now c.args.lease.now c.copy_from_slice.new.self
