use Rattle.std.proofs.Common.{arith, ap, ◌∙◌}
use Rattle.std.specs.Int.{from_le_bytes, w64}
use Rattle.outside.proofs.Twisting.{index_end-is, index_len-part, index_len-whole}
use Rattle.outside.proofs.twist.index_len.Goals as goal

pub returns-then-letter-lt9 : goal.returns-then-letter-lt9
returns-then-letter-lt9 c = omega (arith, index_end-is c.args.letter.now)

pub returns-then-words-most : goal.returns-then-words-most
returns-then-words-most c =
    index_len-whole c.args.letter.now c.from_le_bytes-words.result
    (c.from_le_bytes-words.ensures ∙ ap (from_le_bytes w64) c.copy_from_slice.ensures.after) c.if-words-most.true

pub returns-else-words-most : goal.returns-else-words-most
returns-else-words-most c =
    index_len-part c.args.letter.now c.from_le_bytes-words.result
    (c.from_le_bytes-words.ensures ∙ ap (from_le_bytes w64) c.copy_from_slice.ensures.after) c.if-letter-lt9.false
    c.if-words-most.false
