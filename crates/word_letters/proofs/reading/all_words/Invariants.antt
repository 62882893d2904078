use Rattle.std.proofs.Common.{◌≡◌, take}
use Rattle.letter_codec.specs.Parts.{words_of}
use Rattle.word_letters.proofs.reading.all_words.Given as goal

abbrev pub invariant-loop-at : goal.invariant-loop-at
invariant-loop-at l = l.words.items ≡ take l.at (words_of l.letter.words.now)
