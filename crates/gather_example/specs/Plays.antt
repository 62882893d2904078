-- What a play of the ranks comes to.
use Rattle.std.specs.Prelude.{◌≡◌, ℕ, List, [], map, Ok}
use Rattle.std.specs.Global.{Vec}
use Rattle.std.specs.List.{range_with_len, slice_index_or}
use Rattle.peers.specs.Protocols.{Letter, Protocol, firsts}
use Rattle.rank_phases.specs.PhasedPeers.{IsPeer}
use Rattle.rank_phases.specs.declared.phased.Phased.{Phased}
use Rattle.schedule.specs.declared.order.Order.{Order}
use Rattle.message_play.specs.Plays.{IsPlayed, WireState, given_to}
use Rattle.gather_example.specs.Gathers.{heard}
use Rattle.gather_example.specs.Tellers.{IsTeller}
use Rattle.gather_example.specs.declared.play.Outcome.{Outcome}
use Rattle.gather_example.specs.declared.teller.Teller.{Teller}

-- the word of each rank
abbrev pub words_of : List (Vec ℕ) → ℕ → List ℕ
words_of words rank = slice_index_or (map (λ w. w.items) words) rank []

-- what the first letters to a rank say, of all that were given
abbrev pub heard_by : List Letter → ℕ → List ℕ
heard_by letters rank = heard rank (given_to rank (firsts letters))

-- The ranks were played, and each heard what the first letters to it say.
pub record IsToldTo (ranks : ℕ) (P : Protocol) (order : Order) (begun now : WireState) (outcome : Outcome) : Type 0 where
  pub peers : List (Phased Teller)
  pub played : IsPlayed (IsPeer IsTeller) P order begun now peers (Ok outcome.played)
  pub heard : map (λ w. w.items) outcome.heard.items ≡ map (heard_by played.letters) (range_with_len 0 ranks)
