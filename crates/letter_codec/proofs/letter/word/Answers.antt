use Rattle.std.proofs.Common.{◌∙◌, sym, arith}
use Rattle.letter_codec.proofs.ReadWords.{get_or-words_of, length-words_of}
use Rattle.letter_codec.proofs.letter.word.Goals as goal

pub overflow_mul-at : goal.overflow_mul-at
overflow_mul-at c = let long = length-words_of c.args.letter.now.words.now in omega arith

pub word_at-requires : goal.word_at-requires
word_at-requires c = let long = length-words_of c.args.letter.now.words.now in omega arith

pub returns : goal.returns
returns c =
    let long = length-words_of c.args.letter.now.words.now in
    c.word_at.ensures ∙ sym (get_or-words_of c.args.letter.now.words.now c.args.at (omega arith))
