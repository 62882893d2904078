use Rattle.std.proofs.Common.{◌≡◌, ◌+◌, ◌∙◌, sym, ap, drop, get_or, arith}
use Rattle.letter_codec.specs.Parts.{words_of}
use Rattle.letter_codec.proofs.ReadWords.{get_or-words_of, length-words_of}
use Rattle.letter_codec.proofs.RowWalks.{next-entry, no-entry}
use Rattle.letter_codec.proofs.rows.row_count.Goals as goal

pub word_at-columns-requires : goal.word_at-columns-requires
word_at-columns-requires c =
    let long = length-words_of c.args.words.now in
    let now = c.loop-at.invariant.rest c.requires.0 c.requires.1 in
    let next = next-entry (words_of c.args.words.now) c.loop-at.at now.0 (omega arith) now.1 in
    let room = next.room in
    omega arith

pub overflow_add-at-in-loop-at : goal.overflow_add-at-in-loop-at
overflow_add-at-in-loop-at c =
    let long = length-words_of c.args.words.now in
    let now = c.loop-at.invariant.rest c.requires.0 c.requires.1 in
    let next = next-entry (words_of c.args.words.now) c.loop-at.at now.0 (omega arith) now.1 in
    let room = next.room in
    let here = next.here in
    let word = get_or-words_of c.args.words.now (c.loop-at.at + 1) (omega arith) ∙ sym c.word_at-columns.ensures in
    omega arith

pub overflow_add-at-in-loop-at-2 : goal.overflow_add-at-in-loop-at-2
overflow_add-at-in-loop-at-2 c =
    let long = length-words_of c.args.words.now in
    let now = c.loop-at.invariant.rest c.requires.0 c.requires.1 in
    let next = next-entry (words_of c.args.words.now) c.loop-at.at now.0 (omega arith) now.1 in
    let room = next.room in
    let here = next.here in
    let word = get_or-words_of c.args.words.now (c.loop-at.at + 1) (omega arith) ∙ sym c.word_at-columns.ensures in
    omega arith

pub loop-at-preserved : goal.loop-at-preserved
loop-at-preserved c =
    let long = length-words_of c.args.words.now in
    let before = c.loop-at.invariant.few in
    record {
      few = omega arith;
      rest = λ entries rows.
          let now = c.loop-at.invariant.rest entries rows in
          let next = next-entry (words_of c.args.words.now) c.loop-at.at now.0 (omega arith) now.1 in
          let room = next.room in
          let here = next.here in
          let word : get_or (words_of c.args.words.now) (c.loop-at.at + 1) 0 ≡ c.word_at-columns.result = get_or-words_of c.args.words.now (c.loop-at.at + 1) (omega arith) ∙ sym c.word_at-columns.ensures in
          let same : next.columns ≡ c.word_at-columns.result = sym here ∙ word in
          let counted = next.counted in
          let before = now.2 in
          (next.rest, ap (λ k. drop (c.loop-at.at + (2 + k)) (words_of c.args.words.now)) (sym same) ∙ next.behind, omega arith);
    }

pub returns : goal.returns
returns c = λ entries rows.
    let long = length-words_of c.args.words.now in
    let now = c.loop-at.invariant.rest entries rows in
    let none = no-entry (words_of c.args.words.now) c.loop-at.at now.0 (omega arith) now.1 in
    let before = now.2 in
    omega arith
