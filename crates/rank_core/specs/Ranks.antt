-- A rank of a job, as it is seen from outside.
use Rattle.std.specs.Prelude.{◌≡◌, ℕ, ◌<◌, true, false, Bool}
use Rattle.std.specs.List.{list_all}
use Rattle.scalar_laws.specs.Semiring.{Semiring}
use Rattle.scalar_laws.specs.Conversions.{Conversions}
use Rattle.outside.specs.declared.name.Name.{Name}
use Rattle.peers.specs.Peers.{PeerState, was_given}
use Rattle.peers.specs.Protocols.{stands_in}
use Rattle.rank_phases.specs.Phases.{names_to}
use Rattle.rank_phases.specs.PhasedPeers.{IsPeer}
use Rattle.rank_core.specs.declared.rank.Rank.{Rank}
use Rattle.rank_core.specs.Workers.{IsJobWorker}
pub use Rattle.rank_pieces.specs.Inputs.{IsRankInput}
pub use Rattle.rank_core.specs.Results.{HasEntries, IsEntriesGiven, IsFinished, is_over_there, letter_given, result_table}

-- The rank stands there, by the protocol of its job.
abbrev pub IsRank : {S : Type 0} → Semiring S → Conversions S → Rank S → PeerState → Type 0
IsRank R F rank s = IsPeer (IsJobWorker R F) rank.phased s

-- The phase that a rank is in, of so many: all letters to it of the phases before were given; where it is not done, some letter
-- of this phase was not; and where it is done, this is the number of phases.
pub record IsPhaseAt (s : PeerState) (phases phase : ℕ) (is_done : Bool) : Type 0 where
  pub before : (n : Name) → stands_in s.protocol.names n ≡ true → n.to ≡ s.me → n.phase < phase → was_given s.given n ≡ true
  pub awaits : is_done ≡ false → list_all (was_given s.given) (names_to s.protocol.names phase s.me) ≡ false
  pub end : is_done ≡ true → phase ≡ phases
