use Rattle.std.proofs.Common.{◌≡◌, ℕ, true, map}
use Rattle.std.specs.Prelude.{Some, slice_get}
use Rattle.std.specs.List.{range_with_len}
use Rattle.peers.specs.Peers.{PeerState}
use Rattle.rank_phases.specs.PhasedPeers.{IsPeer}
use Rattle.rank_phases.specs.declared.phased.Phased.{Phased}
use Rattle.gather_example.specs.Gathers.{heard}
use Rattle.gather_example.specs.Tellers.{IsTeller}
use Rattle.gather_example.specs.declared.teller.Teller.{Teller}
use Rattle.gather_example.proofs.play.all_heard.Given as goal

abbrev pub invariant-loop-rank : goal.invariant-loop-rank
invariant-loop-rank l =
    (states : ℕ → PeerState) → ((rank : ℕ) (made : Phased Teller) → slice_get l.ranks rank ≡ Some made → IsPeer IsTeller made (states rank)) → ((rank : ℕ) → (states rank).has_worked ≡ true)
    → map (λ w. w.items) l.all.items ≡ map (λ r. heard (states r).me (states r).given) (range_with_len 0 l.rank-index)
