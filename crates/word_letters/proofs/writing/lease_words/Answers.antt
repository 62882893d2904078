use Rattle.std.proofs.Common.{◌∙◌, ap, sym, length, [], subst, refl}
use Rattle.std.specs.Prelude.{IsSome}
use Rattle.std.specs.Option.{unwrap_or}
use Rattle.byte_pool.specs.Leases.{Leases, leases, with_lease}
use Rattle.byte_pool.proofs.Pools.{leases-written, with_lease-same, with_lease-twice}
use Rattle.letter_codec.specs.Letters.{letter_bytes}
use Rattle.word_letters.proofs.writing.lease_words.Goals as goal

pub bytes_mut-requires : goal.bytes_mut-requires
bytes_mut-requires c =
    let lent = c.in_ok-lease.ensures.lent in
    subst IsSome (sym (ap (λ (live : Leases). live c.in_ok-lease.lease) lent.2 ∙ with_lease-same (leases c.args.pool.now) c.in_ok-lease.lease lent.0)) refl

pub write_words-requires : goal.write_words-requires
write_words-requires c =
    let lent = c.in_ok-lease.ensures.lent in
    let same = sym c.bytes_mut.ensures.value ∙ ap (λ (live : Leases). live c.in_ok-lease.lease) lent.2 ∙ with_lease-same (leases c.args.pool.now) c.in_ok-lease.lease lent.0 in
    record { room = ap (λ o. length (unwrap_or o [])) same ∙ lent.1 }

pub returns-clause-letter : goal.returns-clause-letter
returns-clause-letter c =
    let lent = c.in_ok-lease.ensures.lent in
    let letter = letter_bytes c.args.kind c.args.words.now [] in
    leases-written c.lease_block.new.pool c.in_ok-lease.lease c.bytes_mut.result.now c.write_words.new.out c.bytes_mut.ensures.value c.write_words.auto.out
    ∙ ap (with_lease (leases c.lease_block.new.pool) c.in_ok-lease.lease) c.write_words.ensures.letter
    ∙ ap (λ live. with_lease live c.in_ok-lease.lease letter) lent.2
    ∙ with_lease-twice (leases c.args.pool.now) c.in_ok-lease.lease lent.0 letter
