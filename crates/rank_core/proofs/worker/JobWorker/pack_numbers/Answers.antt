use Rattle.std.proofs.Common.{◌∙◌, ap, refl}
use Rattle.byte_pool.specs.Leases.{leases, with_lease}
use Rattle.rank_core.proofs.Clauses.{if-ok}
use Rattle.rank_core.proofs.PackedLetters.{comes, has-letter, numbers-content, pieces-are, scene}
use Rattle.rank_core.proofs.worker.JobWorker.pack_numbers.Goals as goal

pub pack-requires : goal.pack-requires
pack-requires g c =
    let R = g.S.Scalar.semiring in
    let F = g.S.Scalar.conversions in
    let s = c.requires.sends.0 in
    let stands = c.requires.sends.1.0 in
    let send = c.requires.sends.1.1 in
    let worker = c.args.self.now in
    record {
      coming = (
        scene R F worker s stands c.args.name send c.args.coming.now c.requires.some,
        (
          comes R F worker s stands c.args.name send c.args.coming.now c.requires.some,
          (pieces-are R F worker s stands c.args.name send c.args.coming.now c.requires.some c.deref.result.now c.deref.ensures.value, has-letter R F worker s stands c.args.name send c.args.coming.now c.requires.some),
        ),
      );
    }

pub returns-clause-ok : goal.returns-clause-ok
returns-clause-ok g c =
    let R = g.S.Scalar.semiring in
    let F = g.S.Scalar.conversions in
    let worker = c.args.self.now in
    if-ok c.pack.result c.pack.ensures.letter (λ lease lent s stands send.
    let some = c.requires.some in
    lent (scene R F worker s stands c.args.name send c.args.coming.now some) (comes R F worker s stands c.args.name send c.args.coming.now some)
    (pieces-are R F worker s stands c.args.name send c.args.coming.now some c.deref.result.now c.deref.ensures.value) (has-letter R F worker s stands c.args.name send c.args.coming.now some)
    ∙ ap (with_lease (leases c.args.pool.now) lease) (numbers-content R F worker s stands c.args.name send c.args.coming.now some))
