use Rattle.std.proofs.Common.{sym}
use Rattle.letter_codec.proofs.ReadWords.{length-words_of}
use Rattle.letter_codec.proofs.letter.word_count.Goals as goal

pub returns : goal.returns
returns c = sym (length-words_of c.args.letter.now.words.now)
