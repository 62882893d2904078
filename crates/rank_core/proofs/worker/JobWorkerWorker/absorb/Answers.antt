use Rattle.std.proofs.Common.{◌≡◌, Some, subst, sym, ◌∙◌}
use Rattle.rank_core.specs.declared.makings.Making.TheVariants.{Arriving}
use Rattle.rank_core.specs.Workers.{IsJobWorker}
use Rattle.rank_core.proofs.Clauses.{on-ok}
use Rattle.rank_core.proofs.worker.JobWorkerWorker.absorb.Goals as goal

pub returns : goal.returns
returns g c =
    let R = g.S.Scalar.semiring in
    let F = g.S.Scalar.conversions in
    let is : c.args.self.now.making ≡ Some (Arriving c.in-Some-Arriving.coming) = cc in
    on-ok c.absorb_numbers.result c.absorb_numbers.ensures (λ absorbs s stands can. absorbs s (subst (λ m. IsJobWorker R F (record c.args.self.now { making = m }) s) is stands) can)
