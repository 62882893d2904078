use Rattle.std.proofs.Common.{◌≡◌, ◌∙◌, ◌+◌, ap, sym, subst, refl, length, arith, List, ℕ, ◌++◌, length-append}
use Rattle.std.specs.Prelude.{IsSome}
use Rattle.byte_pool.specs.Leases.{Leases, leases, with_lease}
use Rattle.byte_pool.proofs.Pools.{leases-written, with_lease-same, with_lease-twice}
use Rattle.gather_example.proofs.Telling.{block_is, tells}
use Rattle.gather_example.proofs.teller.TellerWorker.pack.Goals as goal

pub bytes_mut-requires : goal.bytes_mut-requires
bytes_mut-requires c =
    let lent = c.in_ok-lease.ensures.lent in
    subst IsSome (sym (ap (λ (live : Leases). live c.in_ok-lease.lease) lent.2 ∙ with_lease-same (leases c.args.pool.now) c.in_ok-lease.lease lent.0)) refl

pub write_parts-requires : goal.write_parts-requires
write_parts-requires c =
    let lent = c.in_ok-lease.ensures.lent in
    let word : c.len.result ≡ length c.deref.result.now = omega arith in
    ap length (block_is (leases c.args.pool.now) (leases c.lease_block.new.pool) c.in_ok-lease.lease lent.0 c.bytes_mut.result.now lent.2 c.bytes_mut.ensures.value)
    ∙ lent.1 ∙ ap (λ n. n + length c.says-said.result.now) word

pub returns-clause-ok : goal.returns-clause-ok
returns-clause-ok c = λ s is send.
    let lent = c.in_ok-lease.ensures.lent in
    let word : c.len.result ≡ length c.deref.result.now = omega arith in
    let long : length c.bytes_mut.result.now ≡ c.len.result + length c.says-said.result.now =
    ap length (block_is (leases c.args.pool.now) (leases c.lease_block.new.pool) c.in_ok-lease.lease lent.0 c.bytes_mut.result.now lent.2 c.bytes_mut.ensures.value) ∙ lent.1 in
    let same : length c.write_parts.new.block ≡ length c.bytes_mut.result.now =
    ap length c.write_parts.ensures ∙ length-append c.deref.result.now c.says-said.result.now
    ∙ ap (λ n. n + length c.says-said.result.now) (sym word) ∙ sym long in
    let said : c.write_parts.new.block ≡ s.protocol.content c.args.name s.absorbed =
    c.write_parts.ensures ∙ (λ i. c.deref.ensures.value i ++ c.says-said.ensures i) ∙ tells c.args.self.now s c.args.name is send in
    leases-written c.lease_block.new.pool c.in_ok-lease.lease c.bytes_mut.result.now c.write_parts.new.block c.bytes_mut.ensures.value same
    ∙ ap (with_lease (leases c.lease_block.new.pool) c.in_ok-lease.lease) said
    ∙ ap (λ live. with_lease live c.in_ok-lease.lease (s.protocol.content c.args.name s.absorbed)) lent.2
    ∙ with_lease-twice (leases c.args.pool.now) c.in_ok-lease.lease lent.0 (s.protocol.content c.args.name s.absorbed)
