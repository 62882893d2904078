use Rattle.rank_core.proofs.Clauses.{on-ok}
use Rattle.rank_core.proofs.worker.JobWorkerWorker.enter.Goals as goal

pub make-requires : goal.make-requires
make-requires g c = (c.requires.0, (c.in_ok-finish_last.ensures c.requires.0 c.requires.1.0 c.requires.1.1, c.requires.1.1))

pub returns-clause-enters : goal.returns-clause-enters
returns-clause-enters g c =
    on-ok c.begin.result c.begin.ensures.enters (λ enters s stands can. enters s (c.in_ok-make.ensures s (c.in_ok-finish_last.ensures s stands can) can) can)
