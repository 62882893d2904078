use Rattle.std.proofs.Common.{ap, sym, ◌∙◌}
use Rattle.byte_pool.specs.Leases.{Leases, leases, with_lease}
use Rattle.byte_pool.proofs.Pools.{with_lease-same, with_lease-twice}
use Rattle.byte_pool.proofs.pool.Pool.lend.Goals as goal

pub write-requires : goal.write-requires
write-requires c =
    let lent = c.lease-lease.ensures.lent in
    (lent.0, ap (λ (live : Leases). live c.lease-lease.result) lent.2 ∙ with_lease-same (leases c.reserve.new.self) c.lease-lease.result lent.0, lent.1)

pub returns-clause-fresh : goal.returns-clause-fresh
returns-clause-fresh c = ap (λ (live : Leases). live c.lease-lease.result) (sym c.in_ok-reserve.ensures.leases) ∙ c.lease-lease.ensures.fresh

pub returns-clause-lent : goal.returns-clause-lent
returns-clause-lent c =
    let lent = c.lease-lease.ensures.lent in
    c.write.ensures.leases ∙ ap (λ live. with_lease live c.lease-lease.result c.args.bytes.now) lent.2
    ∙ with_lease-twice (leases c.reserve.new.self) c.lease-lease.result lent.0 c.args.bytes.now
    ∙ ap (λ live. with_lease live c.lease-lease.result c.args.bytes.now) c.in_ok-reserve.ensures.leases
