use Rattle.byte_pool.proofs.Pools.{leases-written, sizes-written}
use Rattle.byte_pool.proofs.laws.one_lease_is_written.Goals as goal

pub returns : goal.returns
returns c = λ blocks lease old bytes live long. (leases-written blocks lease old bytes live long, sizes-written blocks lease bytes)
