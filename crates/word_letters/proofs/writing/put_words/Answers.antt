use Rattle.std.proofs.Common.{arith, ◌++◌, take}
use Rattle.letter_codec.specs.Letters.{word_bytes}
use Rattle.word_letters.proofs.Written.{length-before, word-next}
use Rattle.word_letters.proofs.writing.put_words.Goals as goal

pub loop-at-preserved : goal.loop-at-preserved
loop-at-preserved c = λ before long starts.
    word-next before c.args.words.now c.put_word.new.out c.loop-at.at (omega (arith, c.loop-at-test.true))
    (c.put_word.ensures.next (before ++ word_bytes (take c.loop-at.at c.args.words.now)) (length-before before c.args.words.now c.loop-at.at long (omega (arith, c.loop-at-test.true)))
    (c.loop-at.invariant before long starts))
