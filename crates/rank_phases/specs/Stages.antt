-- Where a rank's worker stands.
use Rattle.std.specs.Prelude.{◌≡◌, ℕ, suc, ◌<◌, ◌≤◌, true, false, List, [], ◌∷◌, ◌++◌}
use Rattle.outside.specs.declared.name.Name.{Name}
use Rattle.peers.specs.Protocols.{Protocol, stands_in}
use Rattle.peers.specs.Peers.{IsLetterTo, was_given}
use Rattle.rank_phases.specs.Phases.{of_phase}

-- A rank of a protocol with so many phases, which has entered some of them and absorbed these letters, in this order.
pub record Stage : Type 0 where
  pub protocol : Protocol
  pub phases : ℕ
  pub rank : ℕ
  pub entered : ℕ
  pub absorbed : List (Name × List ℕ)

-- a worker that entered no phase
abbrev pub beginning : Protocol → ℕ → ℕ → Stage
beginning protocol phases rank = record { protocol = protocol; phases = phases; rank = rank; entered = 0; absorbed = [] }

-- one phase further
abbrev pub entering : Stage → Stage
entering s = record s { entered = suc s.entered }

-- with more letters absorbed
abbrev pub absorbing : Stage → List (Name × List ℕ) → Stage
absorbing s letters = record s { absorbed = s.absorbed ++ letters }

-- all letters to the rank of the phases before this one were absorbed
abbrev pub HasAbsorbed : Stage → ℕ → Type 0
HasAbsorbed s phase = (n : Name) → stands_in s.protocol.names n ≡ true → n.to ≡ s.rank → n.phase < phase → was_given s.absorbed n ≡ true

-- The next phase can be entered: all letters to the rank of the phases before it were absorbed. The one after the last
-- stands for the end.
pub record CanEnter (s : Stage) (phase : ℕ) : Type 0 where
  pub next : s.entered ≡ phase
  pub within : phase ≤ s.phases
  pub all_absorbed : HasAbsorbed s phase

-- The rank can send this letter: it is one of the phase that was just entered, of which none was absorbed yet. All of
-- the phases before it were.
pub record CanSend (s : Stage) (n : Name) : Type 0 where
  pub named : stands_in s.protocol.names n ≡ true
  pub from : n.from ≡ s.rank
  pub here : suc n.phase ≡ s.entered
  pub none_yet : of_phase n.phase s.absorbed ≡ []
  pub all_absorbed : HasAbsorbed s n.phase

-- it can send each of these
abbrev pub CanSendAll : Stage → List Name → Type 0
CanSendAll s [] = Unit {0}
CanSendAll s (n ∷ ns) = CanSend s n × CanSendAll s ns

-- The worker can absorb this letter: it is one of the phase that was entered last, and was not absorbed before. All of
-- the phases before it were.
pub record CanAbsorb (s : Stage) (name : Name) (bytes : List ℕ) : Type 0 where
  pub is_letter : IsLetterTo s.protocol s.rank name bytes
  pub here : suc name.phase ≡ s.entered
  pub first : was_given s.absorbed name ≡ false
  pub all_absorbed : HasAbsorbed s name.phase

-- it can absorb each of these in turn
abbrev pub CanAbsorbAll : Stage → List (Name × List ℕ) → Type 0
CanAbsorbAll s [] = Unit {0}
CanAbsorbAll s (l ∷ ls) = CanAbsorb s l.0 l.1 × CanAbsorbAll (absorbing s (l ∷ [])) ls
