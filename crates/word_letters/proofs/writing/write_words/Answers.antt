use Rattle.std.proofs.Common.{arith, refl, length}
use Rattle.letter_codec.specs.Letters.{head_bytes}
use Rattle.letter_codec.proofs.ReadLetters.{length-head}
use Rattle.word_letters.proofs.Written.{letter-whole}
use Rattle.word_letters.proofs.writing.write_words.Goals as goal

pub returns : goal.returns
returns c =
    let head = length-head c.args.kind (length c.args.words.now) in
    record {
      letter = letter-whole c.args.kind c.args.words.now c.put_words.new.out (length c.args.words.now) refl
          (let room = c.requires.room in let one = c.put_words.auto.out in let two = c.write_head.auto.out in omega arith)
          (c.put_words.ensures.next (head_bytes c.args.kind (length c.args.words.now)) head c.write_head.ensures.first);
    }
