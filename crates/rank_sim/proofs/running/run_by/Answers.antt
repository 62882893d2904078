use Rattle.std.proofs.Common.{rules, ◌≡◌, ◌∙◌, Err, map, sym, ap, subst}
use Rattle.std.proofs.lemmas.Result.{err_from_is_err_and}
use Rattle.mm_text.specs.Reading.{file_of}
use Rattle.peers.specs.Protocols.{IsProtocol, Protocol}
use Rattle.message_play.specs.Plays.{AreFresh, wire_state}
use Rattle.model_defs.specs.Machine.{job_protocol}
use Rattle.model_defs.proofs.Protocols.{jobs_are_protocols}
use Rattle.rank_core.specs.Ranks.{IsRank}
use Rattle.rank_sim.specs.Ranks.{IsRunInput}
use Rattle.rank_sim.specs.Runs.{IsRan}
use Rattle.rank_sim.proofs.Begun.{ran-nothing}
use Rattle.rank_sim.proofs.running.run_by.Goals as goal

pub returns-in_err-ranks-clause-ran : goal.returns-in_err-ranks-clause-ran
returns-in_err-ranks-clause-ran g c =
    let R = g.S.Scalar.semiring in
    let F = g.S.Scalar.conversions in
    let state_of = wire_state g.W.Wire.pending g.W.Wire.posted g.W.Wire.taken g.W.Wire.given g.W.Wire.is_honest in
    let files = map file_of c.args.files.now in
    let error = err_from_is_err_and c.from_residual.result c.from_residual.ensures.1 in
    subst (IsRan R F c.args.job.now.value files c.args.order.now (state_of c.args.wire.now) (state_of c.args.wire.now)) (sym (error.1 ∙ ap Err error.2))
    (ran-nothing R F c.args.job.now.value files c.args.order.now (state_of c.args.wire.now) c.requires.1.1.1.1)

pub play_ranks-requires : goal.play_ranks-requires
play_ranks-requires g c κs lives =
    let R = g.S.Scalar.semiring in
    let F = g.S.Scalar.conversions in
    let job = c.args.job.now.value in
    let files = map file_of c.args.files.now in
    let P : Protocol = job_protocol R F job files in
    let is : g.protocol ≡ P = c.requires.1.1.0 in
    let same : c.deref.result.now ≡ job = c.deref.ensures in (
      search rules,
      (
        search rules,
        (
          subst IsProtocol (sym is) (jobs_are_protocols R F job files),
          (
            subst (λ Q. AreFresh (IsRank R F) Q c.deref_mut.result.now) (sym is)
                (subst (AreFresh (IsRank R F) P) (sym c.deref_mut.ensures.value) c.in_ok-ranks.ensures.fresh),
            (
              (
                files,
                (subst (λ j. IsRunInput F j files) (sym same) c.requires.1.1.1.0, is ∙ ap (λ j. job_protocol R F j files) (sym same)),
              ),
              c.requires.1.1.1.1,
            ),
          ),
        ),
      ),
    )
