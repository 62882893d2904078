use Rattle.std.proofs.Common.{◌≡◌, ◌∙◌, ◌<◌, ◌+◌, ℕ, List, ap, sym, length, arith, subst}
use Rattle.peers.specs.Peers.{fresh}
use Rattle.rank_phases.specs.PhasedPeers.{IsPeer}
use Rattle.rank_phases.specs.declared.phased.Phased.{Phased}
use Rattle.message_play.specs.Plays.{StandsAt}
use Rattle.gather_example.specs.Gathers.{gather}
use Rattle.gather_example.specs.Plays.{words_of}
use Rattle.gather_example.specs.Tellers.{IsTeller}
use Rattle.gather_example.specs.declared.teller.Teller.{Teller}
use Rattle.gather_example.proofs.Playing.{length-push, stands-push, word_at}
use Rattle.gather_example.proofs.play.new_ranks.Goals as goal

pub loop-rank-preserved : goal.loop-rank-preserved
loop-rank-preserved c =
    let words = words_of c.args.words.now in
    let word : words c.loop-rank.rank ≡ c.deref.result.now =
    word_at c.args.words.now c.loop-rank.rank c.index-words-rank.result c.loop-rank-test.true c.index-words-rank.is ∙ sym c.deref.ensures.value in
    record {
      long = ap length c.in_ok-push.ensures.items ∙ length-push c.loop-rank.ranks.items c.in_ok-new_rank.field-0 c.loop-rank.rank c.loop-rank.invariant.long;
      each = subst
          (λ (rs : List (Phased Teller)). (k : ℕ) → k < c.loop-rank.rank + 1 → StandsAt (IsPeer IsTeller) rs k (fresh (gather words (length c.args.words.now) c.args.rounds c.args.phases) k))
          (sym c.in_ok-push.ensures.items)
          (stands-push (IsPeer IsTeller) (fresh (gather words (length c.args.words.now) c.args.rounds c.args.phases)) c.loop-rank.ranks.items c.in_ok-new_rank.field-0
          c.loop-rank.rank c.loop-rank.invariant.long c.loop-rank.invariant.each (c.in_ok-new_rank.ensures words word));
    }

pub returns : goal.returns
returns c =
    let all : c.loop-rank.rank ≡ length c.args.words.now = omega arith in
    record {
      ranks = c.loop-rank.invariant.long ∙ all;
      each = λ k below. c.loop-rank.invariant.each k (omega arith);
    }
