use Rattle.std.proofs.Common.{◌≡◌, ◌∙◌, ◌<◌, ◌+◌, ℕ, ap, sym, map, length, arith, subst}
use Rattle.mm_text.specs.Reading.{file_of}
use Rattle.peers.specs.Peers.{fresh}
use Rattle.message_play.specs.Plays.{StandsAt}
use Rattle.model_defs.specs.declared.job.Job.{Job}
use Rattle.model_defs.specs.Machine.{job_protocol}
use Rattle.rank_core.specs.Ranks.{IsRank, IsRankInput}
use Rattle.rank_share.specs.Shares.{share}
use Rattle.rank_sim.proofs.RankResults.{length-push, stands-push}
use Rattle.rank_sim.proofs.ranks.new_ranks.Goals as goal

pub loop-me-preserved : goal.loop-me-preserved
loop-me-preserved g c =
    let R = g.S.Scalar.semiring in
    let F = g.S.Scalar.conversions in
    let job = c.args.job.now.value in
    let files = map file_of c.args.files.now in
    let all = c.requires.input in
    let bound : c.deref.result.now.ranks ≡ job.ranks = ap (λ (j : Job). j.ranks) c.deref.ensures in
    let input : IsRankInput F job files c.loop-me.me c.in_ok-share.share = record {
      valid = all.valid;
      fitting = all.fitting;
      numbers = all.numbers;
      rank = let low = c.loop-me-test.true in omega arith;
      given = c.in_ok-share.ensures.share ∙ ap (λ j. share j files c.loop-me.me) c.deref-in-loop-me.ensures;
    } in
    record {
      long = ap length c.in_ok-push.ensures.items ∙ length-push c.loop-me.ranks.items c.in_ok-start.field-0 c.loop-me.me c.loop-me.invariant.long;
      each = subst (λ rs. (k : ℕ) → k < c.loop-me.me + 1 → StandsAt (IsRank R F) rs k (fresh (job_protocol R F job files) k)) (sym c.in_ok-push.ensures.items)
          (stands-push (IsRank R F) (fresh (job_protocol R F job files)) c.loop-me.ranks.items c.in_ok-start.field-0 c.loop-me.me
          c.loop-me.invariant.long c.loop-me.invariant.each (c.in_ok-start.ensures.fresh files input));
    }

pub returns : goal.returns
returns g c =
    let bound : c.deref.result.now.ranks ≡ c.args.job.now.value.ranks = ap (λ (j : Job). j.ranks) c.deref.ensures in
    let all : c.loop-me.me ≡ c.args.job.now.value.ranks = omega arith in
    record {
      fresh = record {
        ranks = c.loop-me.invariant.long ∙ all;
        each = λ k below. c.loop-me.invariant.each k (omega arith);
      };
    }
