use Rattle.std.proofs.Common.{◌≡◌, ℕ, List, [], ◌∙◌, ap, sym, subst, arith}
use Rattle.mm_text.specs.Reading.{File}
use Rattle.byte_pool.specs.Leases.{leases, with_lease}
use Rattle.letter_codec.specs.Letters.{letter_bytes}
use Rattle.model_defs.specs.Letters.{entries_about}
use Rattle.model_defs.specs.ShapeLists.{at_list}
use Rattle.model_defs.specs.Shapes.{shape}
use Rattle.plan_phases.specs.BookCalls.{IsSendingBook}
use Rattle.rank_core.proofs.Clauses.{if-ok}
use Rattle.rank_core.proofs.PackedLetters.{phase-there, sending-book, words-content}
use Rattle.rank_core.proofs.worker.JobWorker.pack_words.Goals as goal

pub index-phase-requires : goal.index-phase-requires
index-phase-requires g c =
    let low = phase-there g.S.Scalar.semiring g.S.Scalar.conversions c.args.self.now c.requires.sends.0 c.requires.sends.1.0 c.args.name c.requires.sends.1.1 in
    let ok = c.args.self.now.phases.ok.0 in
    omega arith

pub phase_words-requires : goal.phase_words-requires
phase_words-requires g c =
    let R = g.S.Scalar.semiring in
    let F = g.S.Scalar.conversions in
    let s = c.requires.sends.0 in
    let stands = c.requires.sends.1.0 in
    let send = c.requires.sends.1.1 in
    record {
      shapes = ap at_list c.deref-2.ensures.value ∙ stands.worker_of.shapes ∙ ap shape (sym c.deref.ensures);
      sends = (
        stands.files,
        subst (λ j. IsSendingBook R F j stands.files c.args.self.now.book c.index-phase.result.now.about c.args.name.to) (sym c.deref.ensures)
            (sending-book R F c.args.self.now s stands c.args.name send c.requires.none c.index-phase.result.now c.index-phase.ensures),
      );
    }

pub returns-clause-ok : goal.returns-clause-ok
returns-clause-ok g c =
    let R = g.S.Scalar.semiring in
    let F = g.S.Scalar.conversions in
    let x = c.index-phase.result.now in
    if-ok c.lease_words.result c.lease_words.ensures.letter (λ lease lent s stands send.
    lent
    ∙ ap (λ ws. with_lease (leases c.args.pool.now) lease (letter_bytes x.kind ws [])) c.deref-3.ensures.value
    ∙ ap (with_lease (leases c.args.pool.now) lease)
    (words-content R F c.args.self.now s stands c.args.name send c.requires.none x c.index-phase.ensures c.in_ok-words.words.items
    (subst (λ j. (files : List File) (k : ℕ) (e : IsSendingBook R F j files c.args.self.now.book x.about c.args.name.to) → c.in_ok-words.words.items ≡ entries_about j files k x.about e.stage.rank c.args.name.to)
    c.deref.ensures c.in_ok-words.ensures.words)))
