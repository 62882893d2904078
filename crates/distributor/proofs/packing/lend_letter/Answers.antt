use Rattle.std.proofs.Common.{◌∙◌, ap, sym, arith, length, []}
use Rattle.std.specs.Prelude.{is_some}
use Rattle.std.specs.Option.{unwrap_or}
use Rattle.byte_pool.specs.Leases.{Leases, leases, with_lease}
use Rattle.byte_pool.proofs.Pools.{leases-written, sizes-written, with_lease-same, with_lease-twice}
use Rattle.distributor.specs.Packed.{sent_entries, entries_letter}
use Rattle.distributor.proofs.packing.lend_letter.Goals as goal

pub bytes_mut-requires : goal.bytes_mut-requires
bytes_mut-requires g c =
    let lent = c.lease-lease.ensures.lent in
    ap is_some (ap (λ (live : Leases). live c.lease-lease.result) lent.2 ∙ with_lease-same (leases c.args.pool.now) c.lease-lease.result lent.0)

pub write_letter-requires-clause-room : goal.write_letter-requires-clause-room
write_letter-requires-clause-room g c =
    let lent = c.lease-lease.ensures.lent in
    let same = sym c.bytes_mut.ensures.value ∙ ap (λ (live : Leases). live c.lease-lease.result) lent.2 ∙ with_lease-same (leases c.args.pool.now) c.lease-lease.result lent.0 in
    omega (arith, ap (λ o. length (unwrap_or o [])) same, lent.1, c.requires.len)

pub returns-clause-letter : goal.returns-clause-letter
returns-clause-letter g c =
    let lent = c.lease-lease.ensures.lent in
    let es = sent_entries (g.A.DistSource.entries c.args.source.now) c.args.list.now in
    let letter = entries_letter g.S.Scalar.conversions c.args.kind es in
    leases-written c.lease-lease.new.self c.lease-lease.result c.bytes_mut.result.now c.write_letter.new.out c.bytes_mut.ensures.value c.write_letter.auto.out
    ∙ ap (with_lease (leases c.lease-lease.new.self) c.lease-lease.result) c.write_letter.ensures.letter
    ∙ ap (λ live. with_lease live c.lease-lease.result letter) lent.2
    ∙ with_lease-twice (leases c.args.pool.now) c.lease-lease.result lent.0 letter

pub returns-clause-sizes : goal.returns-clause-sizes
returns-clause-sizes g c = sizes-written c.lease-lease.new.self c.lease-lease.result c.write_letter.new.out ∙ c.lease-lease.ensures.sizes
