use Rattle.std.proofs.Common.{arith}
use Rattle.rank_phases.proofs.Courses.{repeat_later, repeat_here}
use Rattle.rank_phases.proofs.phased.Phased.is_repeat.Goals as goal

pub returns-then-name-self : goal.returns-then-name-self
returns-then-name-self g c = λ course h named to.
    let later = repeat_later g.W.Worker.stands c.args.self.now c.args.self.now course h c.args.name c.if-name-self.true c.letters.result.now c.letters.ensures in cc

pub returns-else-name-self-2 : goal.returns-else-name-self-2
returns-else-name-self-2 g c = λ course h named to.
    let here = repeat_here g.W.Worker.stands c.args.self.now c.args.self.now course h c.args.name named to (omega arith) in cc
