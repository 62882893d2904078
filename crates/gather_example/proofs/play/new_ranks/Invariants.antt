use Rattle.std.proofs.Common.{◌≡◌, ℕ, ◌<◌, length}
use Rattle.peers.specs.Peers.{fresh}
use Rattle.rank_phases.specs.PhasedPeers.{IsPeer}
use Rattle.message_play.specs.Plays.{StandsAt}
use Rattle.gather_example.specs.Gathers.{gather}
use Rattle.gather_example.specs.Plays.{words_of}
use Rattle.gather_example.specs.Tellers.{IsTeller}
use Rattle.gather_example.proofs.play.new_ranks.Given as goal

abbrev pub invariant-loop-rank : goal.invariant-loop-rank
invariant-loop-rank l = record {
  long : length l.ranks.items ≡ l.rank;
  each : (k : ℕ) → k < l.rank → StandsAt (IsPeer IsTeller) l.ranks.items k (fresh (gather (words_of l.words) (length l.words) l.rounds l.phases) k);
}
