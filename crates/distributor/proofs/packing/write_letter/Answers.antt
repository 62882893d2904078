use Rattle.std.proofs.Common.{arith, ◌++◌}
use Rattle.std.specs.List.{flat_map}
use Rattle.letter_codec.specs.Letters.{word_bytes}
use Rattle.distributor.specs.Packed.{sent_entries, words_for}
use Rattle.distributor.proofs.Written.{length-behind_words, letter-whole}
use Rattle.letter_codec.specs.Letters.{head_bytes}
use Rattle.letter_codec.proofs.ReadLetters.{length-head}
use Rattle.distributor.proofs.packing.write_letter.Goals as goal

pub returns : goal.returns
returns g c =
    let es = sent_entries (g.A.DistSource.entries c.args.source.now) c.args.list.now in
    let ws = flat_map (words_for c.args.kind) es in
    let head = length-head c.args.kind c.args.words in
    let words = c.put_words.ensures.next (head_bytes c.args.kind c.args.words) head c.write_head.ensures.first in
    let numbers = c.put_numbers.ensures.next (head_bytes c.args.kind c.args.words ++ word_bytes ws) (omega (arith, length-behind_words (head_bytes c.args.kind c.args.words) ws 9 head, c.requires.words)) words in
    record { letter = letter-whole g.S.Scalar.conversions g.met.S.Scalar.conversion_laws c.args.kind es c.args.words c.put_numbers.new.out c.requires.words (omega (arith, c.requires.room, c.put_numbers.auto.out, c.put_words.auto.out, c.write_head.auto.out)) numbers }
