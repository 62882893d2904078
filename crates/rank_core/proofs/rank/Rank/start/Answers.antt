use Rattle.std.proofs.Common.{◌≡◌, sym, subst}
use Rattle.model_defs.specs.Machine.{job_protocol}
use Rattle.rank_phases.specs.Stages.{beginning}
use Rattle.rank_pieces.specs.Inputs.{IsRankInput}
use Rattle.rank_core.specs.Workers.{IsJobWorker}
use Rattle.std.specs.Prelude.{length}
use Rattle.model_defs.specs.Phases.{phases}
use Rattle.rank_phases.proofs.PhaseProtocols.{goes-phased}
use Rattle.job_phases.proofs.ByPhase.{goes-by-phase}
use Rattle.rank_core.proofs.rank.Rank.start.Goals as goal

pub returns : goal.returns
returns g c =
    let R = g.S.Scalar.semiring in
    let F = g.S.Scalar.conversions in
    let same : c.in_ok-clone.field-0.value ≡ c.args.job.now.value = c.in_ok-clone.ensures.cases in
    record {
      fresh = λ files input.
          c.new-2.ensures.peer (job_protocol R F c.args.job.now.value files) (length (phases c.args.job.now.value)) c.args.me
          (goes-phased (job_protocol R F c.args.job.now.value files) (length (phases c.args.job.now.value)) (goes-by-phase R F c.args.job.now.value files))
          (subst (λ job. IsJobWorker R F c.in_ok-worker.worker (beginning (job_protocol R F job files) (length (phases job)) c.args.me)) same
          (c.in_ok-worker.ensures.stands files (subst (λ job. IsRankInput F job files c.args.me c.args.share) (sym same) input)));
    }
