use Rattle.std.proofs.Common.{refl}
use Rattle.std.proofs.lemmas.Result.{IfOk-weaker}
use Rattle.rank_phases.proofs.Courses.{holds-kept}
use Rattle.rank_phases.proofs.phased.Phased.keep.Goals as goal

pub returns-clause-gives : goal.returns-clause-gives
returns-clause-gives g c =
    IfOk-weaker c.keep.result _ _
    (λ v kept. λ course h letter first.
    holds-kept g.W.Worker.stands c.args.self.now _ course h c.args.name c.args.bytes.now letter first c.requires
    refl refl refl refl kept refl refl)
    c.keep.ensures
