use Rattle.std.proofs.Common.{List, [], ◌∷◌, ◌∙◌, sym, subst, arith}
use Rattle.mm_text.specs.Reading.{File}
use Rattle.rank_phases.specs.Stages.{absorbing}
use Rattle.plan_phases.specs.BookCalls.{IsAbsorbingBook}
use Rattle.plan_phases.specs.BookStages.{IsBookStage, with_book}
use Rattle.rank_core.proofs.AbsorbedWords.{absorbing-book, has-form, has-words, words-absorbed}
use Rattle.value_phases.proofs.NumberedPhases.{jobs-have-value-phases}
use Rattle.rank_core.proofs.Clauses.{on-ok}
use Rattle.rank_core.proofs.Counted.{there-at}
use Rattle.rank_core.proofs.RankNames.{listed, phase-known, phase-of}
use Rattle.model_defs.specs.Phases.{phases}
use Rattle.rank_core.proofs.worker.JobWorker.absorb_words.Goals as goal

pub words_of_letter-requires : goal.words_of_letter-requires
words_of_letter-requires g c =
    let R = g.S.Scalar.semiring in
    let F = g.S.Scalar.conversions in
    let s = c.requires.absorbs.0 in
    let stands = c.requires.absorbs.1.0 in
    let can = c.requires.absorbs.1.1 in
    let job = c.args.self.now.job.value in
    let there = there-at (phases job) c.args.name.phase (phase-known R F job stands.files stands.view s stands.book.stage c.args.name can.is_letter.named) in
    record { letter = has-words R F c.args.self.now s stands c.args.name c.args.bytes.now can (jobs-have-value-phases c.args.self.now.job.value stands.worker_of.input.valid) c.requires.none there.0 there.1 }

pub index-requires : goal.index-requires
index-requires g c =
    let R = g.S.Scalar.semiring in
    let F = g.S.Scalar.conversions in
    let s = c.requires.absorbs.0 in
    let stands = c.requires.absorbs.1.0 in
    let can = c.requires.absorbs.1.1 in
    let low = listed R F c.args.self.now.job.value stands.files stands.view s stands.book.stage c.args.name can.is_letter.named c.args.self.now.phases.items stands.worker_of.phase_list in
    let ok = c.args.self.now.phases.ok.0 in
    omega arith

pub absorb_words-requires : goal.absorb_words-requires
absorb_words-requires g c =
    let R = g.S.Scalar.semiring in
    let F = g.S.Scalar.conversions in
    let s = c.requires.absorbs.0 in
    let stands = c.requires.absorbs.1.0 in
    let can = c.requires.absorbs.1.1 in
    let job = c.args.self.now.job.value in
    let x = c.index.result.now in
    let list = c.args.self.now.phases.items in
    let low = listed R F job stands.files stands.view s stands.book.stage c.args.name can.is_letter.named list stands.worker_of.phase_list in
    let at = phase-of job list c.args.name.phase x stands.worker_of.phase_list low c.index.ensures in
    let same = c.deref-2.ensures.value in
    record {
      absorbs = (
        stands.files,
        subst (λ j. IsAbsorbingBook R F j stands.files c.args.self.now.book x.about c.args.name.from c.deref-2.result.now) (sym c.deref.ensures)
            (absorbing-book R F c.args.self.now s stands c.args.name c.args.bytes.now can (jobs-have-value-phases c.args.self.now.job.value stands.worker_of.input.valid) c.requires.none x at c.deref-2.result.now
            (λ kind ws letter whole. same ∙ c.in_ok-words.ensures.words kind ws letter whole)),
      );
    }

pub entries_of_letter-requires : goal.entries_of_letter-requires
entries_of_letter-requires g c =
    let R = g.S.Scalar.semiring in
    let F = g.S.Scalar.conversions in
    let s = c.requires.absorbs.0 in
    let stands = c.requires.absorbs.1.0 in
    let can = c.requires.absorbs.1.1 in
    let job = c.args.self.now.job.value in
    let there = there-at (phases job) c.args.name.phase (phase-known R F job stands.files stands.view s stands.book.stage c.args.name can.is_letter.named) in
    record { letter = has-form R F c.args.self.now s stands c.args.name c.args.bytes.now can (jobs-have-value-phases c.args.self.now.job.value stands.worker_of.input.valid) c.requires.none there.0 there.1 }

pub returns : goal.returns
returns g c = on-ok c.put.result c.put.ensures.put (λ put s stands can.
    let R = g.S.Scalar.semiring in
    let F = g.S.Scalar.conversions in
    let job = c.args.self.now.job.value in
    let x = c.index.result.now in
    let list = c.args.self.now.phases.items in
    let low = listed R F job stands.files stands.view s stands.book.stage c.args.name can.is_letter.named list stands.worker_of.phase_list in
    let at = phase-of job list c.args.name.phase x stands.worker_of.phase_list low c.index.ensures in
    let same = c.deref-2.ensures.value in
    words-absorbed R F c.args.self.now s stands c.args.name c.args.bytes.now can (jobs-have-value-phases c.args.self.now.job.value stands.worker_of.input.valid) c.requires.none x at c.deref-2.result.now
    (λ kind ws letter whole. same ∙ c.in_ok-words.ensures.words kind ws letter whole)
    c.absorb_words.new.book c.put.new.self c.entries_of_letter.result
    (subst
    (λ j. (files : List File) (e : IsAbsorbingBook R F j files c.args.self.now.book x.about c.args.name.from c.deref-2.result.now)
    → IsBookStage R F j files c.absorb_words.new.book (with_book e.view c.absorb_words.new.book) (absorbing e.stage ((e.name, e.bytes) ∷ [])))
    c.deref.ensures c.in_ok-absorb_words.ensures.absorbed)
    c.entries_of_letter.ensures.count put)
