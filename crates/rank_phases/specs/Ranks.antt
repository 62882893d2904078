-- Where a rank stands that goes through the phases.
use Rattle.std.specs.Prelude.{◌≡◌, ℕ, suc, ◌+◌, ◌<◌, ◌≤◌, ◌^◌, Bool, true, false, nat_lt, List, [], ◌∷◌, ◌++◌}
use Rattle.std.specs.List.{list_all}
use Rattle.outside.specs.declared.name.Name.{Name}
use Rattle.peers.specs.Protocols.{Protocol, stands_in}
use Rattle.rank_phases.specs.FirstLetters.{AreLettersTo, are_firsts}
use Rattle.peers.specs.Peers.{was_given}
use Rattle.rank_phases.specs.Phases.{IsPhased, absorbed, awaited, from_phase, names_to, of_phase, posts}
use Rattle.rank_phases.specs.Stages.{Stage}
use Rattle.rank_phases.specs.Queues.{early_at}
use Rattle.rank_phases.specs.declared.phased.Phased.{Phased}

-- A rank of a protocol with so many phases, the first letters given to it, in order, and the letters that it sent, in order.
pub record Course : Type 0 where
  pub protocol : Protocol
  pub phases : ℕ
  pub rank : ℕ
  pub given : List (Name × List ℕ)
  pub sent : List (Name × List ℕ)

-- with one more letter given
abbrev pub giving : Course → Name → List ℕ → Course
giving c name bytes = record c { given = c.given ++ (name, bytes) ∷ [] }

-- with one more letter sent
abbrev pub sending : Course → Name × List ℕ → Course
sending c letter = record c { sent = c.sent ++ letter ∷ [] }

-- the worker's stage after it entered so many phases
abbrev pub stage_of : Course → ℕ → Stage
stage_of c entered = record {
  protocol = c.protocol;
  phases = c.phases;
  rank = c.rank;
  entered = entered;
  absorbed = absorbed entered c.given;
}

-- What holds of a rank between two calls, also where it could work on.
pub record Holds {W : Type 0} (stands : W → Stage → Type 0) (rank : Phased W) (c : Course) : Type 0 where
  pub laws : IsPhased c.protocol c.phases
  pub letters : AreLettersTo c.protocol c.rank c.given
  pub firsts : are_firsts c.given ≡ true
  pub phases : rank.phases ≡ c.phases
  pub limit : c.phases + 1 < 2 ^ 32
  pub within : rank.entered ≤ suc c.phases
  pub works : rank.failed ≡ false
  -- all letters of the phases that were left were given
  pub passed : (n : Name) → stands_in c.protocol.names n ≡ true → n.to ≡ c.rank → suc n.phase < rank.entered → was_given c.given n ≡ true
  pub awaits : rank.awaited.items ≡ awaited c.protocol c.rank rank.entered c.given
  pub early : (phase : ℕ) → early_at rank.early phase ≡ of_phase phase (from_phase rank.entered c.given)
  pub worker : stands rank.worker (stage_of c rank.entered)
  pub queue : c.sent ++ rank.queue ≡ posts c.protocol c.rank rank.entered c.given

-- This phase is the first of which a letter to the rank was not given; where there is none, it is the number of phases.
pub record IsPhaseOf (c : Course) (phase : ℕ) (done : Bool) : Type 0 where
  pub before : (n : Name) → stands_in c.protocol.names n ≡ true → n.to ≡ c.rank → n.phase < phase → was_given c.given n ≡ true
  pub at : done ≡ false → list_all (was_given c.given) (names_to c.protocol.names phase c.rank) ≡ false
  pub end : done ≡ true → phase ≡ c.phases
  pub within : done ≡ false → phase < c.phases

-- how many phases the rank entered, the end counting as one
abbrev pub phases_entered : {W : Type 0} → Phased W → ℕ
phases_entered rank = rank.entered

-- the letters that the rank queued and did not send, in order
abbrev pub queued : {W : Type 0} → Phased W → List (Name × List ℕ)
queued rank = rank.queue

-- whether a call of the rank ran out of memory
abbrev pub has_failed : {W : Type 0} → Phased W → Bool
has_failed rank = rank.failed

-- whether the end was reached
abbrev pub is_past : {W : Type 0} → Phased W → Bool
is_past rank = nat_lt rank.phases rank.entered

-- What holds of a rank that worked until it awaits a letter or is at the end.
pub record HasWorked {W : Type 0} (stands : W → Stage → Type 0) (rank : Phased W) (c : Course) : Type 0 where
  pub holds : Holds stands rank c
  pub worked : rank.awaited.items ≡ [] → rank.phases < rank.entered
