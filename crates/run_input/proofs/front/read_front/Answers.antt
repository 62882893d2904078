use Rattle.std.proofs.Common.{◌+◌}
use Rattle.mm_text.proofs.AnswerLemmas.{front_of}
use Rattle.run_input.proofs.front.read_front.Goals as goal

pub returns-in-Ok-clause-front : goal.returns-in-Ok-clause-front
returns-in-Ok-clause-front g c =
    front_of (g.F.Files.told c.args.files.now) c.args.name.now c.in-Ok.bytes.items (c.args.most + 1) c.in-Ok.ensures.most c.in-Ok.ensures.bytes
