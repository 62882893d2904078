-- Where a rank's worker stands.
use Rattle.std.specs.Prelude.{◌≡◌, ℕ, ◌+◌, ◌<◌, ◌^◌, List}
use Rattle.rank_phases.specs.FirstLetters.{AreLettersTo}
use Rattle.rank_phases.specs.Stages.{Stage}
use Rattle.gather_example.specs.Gathers.{gather, heard}
use Rattle.gather_example.specs.declared.teller.Teller.{Teller}

-- The worker is that of this rank of the protocol, has its word, and what it heard.
pub record IsTeller (worker : Teller) (s : Stage) : Type 0 where
  pub words : ℕ → List ℕ
  pub protocol : s.protocol ≡ gather words worker.ranks worker.rounds worker.phases
  pub word : words worker.rank ≡ worker.word.items
  pub phases : worker.phases ≡ s.phases
  pub limit : s.phases + 1 < 2 ^ 32
  pub rank : worker.rank ≡ s.rank
  pub within : worker.rank < worker.ranks
  pub letters : AreLettersTo s.protocol s.rank s.absorbed
  pub hears : worker.heard.items ≡ heard s.rank s.absorbed
