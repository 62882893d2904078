use Rattle.std.proofs.Common.{◌≡◌, ◌<◌, ℕ, false, Some}
use Rattle.std.specs.Prelude.{slice_get}
use Rattle.peers.specs.Peers.{PeerState}
use Rattle.rank_core.specs.declared.rank.Rank.{Rank}
use Rattle.rank_core.specs.Ranks.{IsFinished, IsRank, is_over_there, result_table}
use Rattle.rank_sim.proofs.ranks.any_over.Given as goal

abbrev pub invariant-loop-rank : goal.invariant-loop-rank
invariant-loop-rank g l =
    (k : ℕ) (rank : Rank _) → k < l.rank-index → slice_get l.ranks k ≡ Some rank → (s : PeerState)
    → IsRank g.S.Scalar.semiring g.S.Scalar.conversions rank s → IsFinished s
    → (v i j : ℕ) → is_over_there g.S.Scalar.conversions (result_table g.S.Scalar.conversions s v i j) ≡ false
