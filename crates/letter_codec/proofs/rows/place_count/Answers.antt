use Rattle.std.proofs.Common.{◌+◌, ◌∙◌, ◌∷◌, sym, ap, drop, None, Some, arith}
use Rattle.letter_codec.specs.Parts.{words_of}
use Rattle.letter_codec.specs.RowWalk.{ended, walk}
use Rattle.letter_codec.proofs.ReadWords.{drop-words_of, length-words_of}
use Rattle.letter_codec.proofs.RowWalks.{not_row, walk-end, walk-step}
use Rattle.letter_codec.proofs.rows.place_count.Goals as goal

pub returns-in_err-awaited : goal.returns-in_err-awaited
returns-in_err-awaited c =
    c.from_residual.ensures
    ∙ sym (walk-step c.loop-at.awaited c.loop-at.places (words_of c.args.words.now) c.loop-at.at c.word_at.result None
    (drop-words_of c.args.words.now c.loop-at.at c.loop-at-test.true ∙ ap (λ w. w ∷ drop (c.loop-at.at + 1) (words_of c.args.words.now)) (sym c.word_at.ensures))
    (sym c.in_err-awaited.was ∙ c.behind.ensures))
    ∙ c.loop-at.invariant.walked

pub loop-at-preserved : goal.loop-at-preserved
loop-at-preserved c =
    let few = c.loop-at.invariant.few in
    let most = c.numbers_of-more.ensures.most in
    record {
      few = omega arith;
      walked =
          ap (λ k. walk (Some c.in_ok-awaited.awaited) (c.loop-at.places + k) (drop (c.loop-at.at + 1) (words_of c.args.words.now))) c.numbers_of-more.ensures.value
          ∙ sym (walk-step c.loop-at.awaited c.loop-at.places (words_of c.args.words.now) c.loop-at.at c.word_at.result (Some c.in_ok-awaited.awaited)
          (drop-words_of c.args.words.now c.loop-at.at c.loop-at-test.true ∙ ap (λ w. w ∷ drop (c.loop-at.at + 1) (words_of c.args.words.now)) (sym c.word_at.ensures))
          (sym c.in_ok-awaited.was ∙ c.behind.ensures))
          ∙ c.loop-at.invariant.walked;
    }

pub returns-in-Row : goal.returns-in-Row
returns-in-Row c =
    let long = length-words_of c.args.words.now in
    sym (ap (λ s. ended s c.loop-at.places) c.in-Row.is)
    ∙ sym (walk-end c.loop-at.awaited c.loop-at.places (words_of c.args.words.now) c.loop-at.at (omega arith)) ∙ c.loop-at.invariant.walked

pub returns-in_default : goal.returns-in_default
returns-in_default c =
    let long = length-words_of c.args.words.now in
    sym (not_row c.loop-at.awaited c.loop-at.places c.in_default.not-Row)
    ∙ sym (walk-end c.loop-at.awaited c.loop-at.places (words_of c.args.words.now) c.loop-at.at (omega arith)) ∙ c.loop-at.invariant.walked
