use Rattle.rank_phases.specs.Ranks.{stage_of}
use Rattle.std.proofs.Common.{refl}
use Rattle.rank_phases.proofs.Courses.{holds-start}
use Rattle.rank_phases.proofs.phased.Phased.start.Goals as goal

pub returns-clause-holds : goal.returns-clause-holds
returns-clause-holds g c = λ course given sent laws worker.
    holds-start g.W.Worker.stands _ course given sent laws worker (c.phases.ensures.count (stage_of course 0) worker) (c.phases.ensures.limit (stage_of course 0) worker)
    refl refl c.new.ensures.items c.new-2.ensures c.new-3.ensures
