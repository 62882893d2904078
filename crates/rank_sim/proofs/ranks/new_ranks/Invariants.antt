use Rattle.std.proofs.Common.{◌≡◌, ℕ, ◌<◌, length, map}
use Rattle.mm_text.specs.Reading.{file_of}
use Rattle.peers.specs.Peers.{fresh}
use Rattle.message_play.specs.Plays.{StandsAt}
use Rattle.model_defs.specs.Machine.{job_protocol}
use Rattle.rank_core.specs.Ranks.{IsRank}
use Rattle.rank_sim.proofs.ranks.new_ranks.Given as goal

abbrev pub invariant-loop-me : goal.invariant-loop-me
invariant-loop-me g l = record {
  long : length l.ranks.items ≡ l.me;
  each : (k : ℕ) → k < l.me
      → StandsAt (IsRank g.S.Scalar.semiring g.S.Scalar.conversions) l.ranks.items k (fresh (job_protocol g.S.Scalar.semiring g.S.Scalar.conversions l.job.value (map file_of l.files)) k);
}
