use Rattle.letter_codec.specs.Letters.{head_bytes}
use Rattle.letter_codec.proofs.WrittenBytes.{starts-first}
use Rattle.letter_codec.proofs.writing.write_head.Goals as goal

pub returns-clause-first : goal.returns-clause-first
returns-clause-first c = starts-first (head_bytes c.args.kind c.args.words) c.args.out.now c.put_head.new.out c.put_head.ensures
