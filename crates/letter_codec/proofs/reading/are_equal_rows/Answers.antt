use Rattle.letter_codec.proofs.EqualRows.{divided, divides}
use Rattle.letter_codec.proofs.reading.are_equal_rows.Goals as goal

pub returns-else-entries-eq0 : goal.returns-else-entries-eq0
returns-else-entries-eq0 c = (divided c.args.numbers c.args.entries c.if-entries-eq0.false, divides c.args.numbers c.args.entries c.if-entries-eq0.false)
