-- A play over a wire: the letters given, and what it comes to.
use Rattle.std.specs.Prelude.{Result, Ok, Err, ◌≡◌, ℕ, ◌<◌, ◌==◌, Bool, true, if◌then◌else◌, IsTrue, List, [], ◌++◌, Option, None, Some, length}
use Rattle.std.specs.List.{filter, slice_get}
use Rattle.std.specs.Option.{option_map}
use Rattle.outside.specs.declared.name.Name.{Name}
use Rattle.outside.specs.Letters.{Letters, no_letters}
use Rattle.outside.specs.MailRoom.{names_of}
use Rattle.peers.specs.Protocols.{Letter, Protocol, firsts, flies}
use Rattle.schedule.specs.declared.order.Order.{Order}
use Rattle.message_play.specs.declared.fault.Played.{Played}
use Rattle.message_play.specs.declared.fault.Played.TheVariants as played
use Rattle.message_play.specs.declared.fault.PlayFault.{PlayFault}
use Rattle.message_play.specs.declared.fault.PlayFault.TheVariants as fault
use Rattle.message_play.specs.Faults.{is_settled}
use Rattle.schedule.specs.Orders.{Complete, Ending, Left, Wrong, deliveries, ending}
use Rattle.peers.specs.Peers.{PeerState, at_rest, fresh}
use Rattle.peers.specs.Runs.{EachComes, IsExactRun, IsRun}

-- what a wire means: see the trait `Wire` of `outside`
pub record WireState : Type 0 where
  pub pending : Letters
  pub posted : Letters
  pub taken : List Name
  pub given : Option (List Letter)
  pub is_honest : Bool

-- the meanings of a wire
abbrev pub wire_state : {W : Type 0} → (W → Letters) → (W → Letters) → (W → List Name) → (W → Option (List Letter)) → (W → Bool) → W → WireState
wire_state pending posted taken given is_honest wire = record {
  pending = pending wire;
  posted = posted wire;
  taken = taken wire;
  given = given wire;
  is_honest = is_honest wire;
}

-- each pending letter is in flight after these letters, and is what its sender makes of them
abbrev pub IsPendingMade : Protocol → List Letter → Letters → Type 0
IsPendingMade P letters pending =
    (n : Name) (bytes : List ℕ) → pending n ≡ Some bytes → (flies P (names_of letters) n ≡ true) × (bytes ≡ P.content n (firsts letters))

-- Since a wire was as `begun`, these letters were given: each was in flight or delivered before, they are a run, and the
-- wire tells them. What is pending is what their senders make.
pub record IsCourse (P : Protocol) (begun now : WireState) (letters : List Letter) : Type 0 where
  pub taken : now.taken ≡ begun.taken ++ names_of letters
  pub given : now.given ≡ option_map (λ told. told ++ letters) begun.given
  pub same_honesty : now.is_honest ≡ begun.is_honest
  pub comes : EachComes P [] (names_of letters)
  pub run : IsRun P letters
  pub exact : IsTrue begun.is_honest → IsExactRun P letters
  pub pending : IsPendingMade P letters now.pending

-- of these letters those to a rank
abbrev pub given_to : ℕ → List Letter → List Letter
given_to rank letters = filter (λ l. l.0.to == rank) letters

-- the rank at this place stands so
abbrev pub StandsAt : {N : Type 0} → (N → PeerState → Type 0) → List N → ℕ → PeerState → Type 0
StandsAt {N} stands peers rank s = (peer : N) × (slice_get peers rank ≡ Some peer) × stands peer s

-- ranks that were given nothing and did not work yet, one for each rank of the protocol
pub record AreFresh {N : Type 0} (stands : N → PeerState → Type 0) (P : Protocol) (peers : List N) : Type 0 where
  pub ranks : length peers ≡ P.ranks
  pub each : (rank : ℕ) → rank < P.ranks → StandsAt stands peers rank (fresh P rank)

-- After these letters each rank was given the first of the letters to it, in order, and made what it could. Exactly
-- the letters in flight are pending, as their senders made them.
pub record IsAtRest {N : Type 0} (stands : N → PeerState → Type 0) (P : Protocol) (letters : List Letter) (peers : List N) (pending : Letters) : Type 0 where
  pub ranks : length peers ≡ P.ranks
  pub rests : (rank : ℕ) → rank < P.ranks → StandsAt stands peers rank (at_rest P rank (given_to rank (firsts letters)))
  pub pends : (n : Name) → pending n ≡ (if flies P (names_of letters) n then Some (P.content n (firsts letters)) else None)

-- the answer of a play says how the order ends, where neither the wire nor memory failed
abbrev pub EndsAs : Ending → Result Played PlayFault → Type 0
EndsAs end (Ok played.Complete) = end ≡ Complete
EndsAs end (Ok (played.Left names)) = end ≡ Left names.items
EndsAs end (Err (fault.NotInFlight line name)) = end ≡ Wrong line name
EndsAs end (Err fault.WireFault) = Unit {0}
EndsAs end (Err fault.NoMem) = Unit {0}

-- A play in an order: since the wire was as `begun`, letters were given that are a run, and their names are the first
-- that the order delivers. Where neither the wire nor memory failed they are all of these, each rank is at rest, and
-- the answer says how the order ends. Where that is complete, nothing is pending.
pub record IsPlayed {N : Type 0} (stands : N → PeerState → Type 0) (P : Protocol) (order : Order) (begun now : WireState) (peers : List N) (answer : Result Played PlayFault) : Type 0 where
  pub letters : List Letter
  pub course : IsCourse P begun now letters
  pub rest : List Name
  pub first_of : names_of letters ++ rest ≡ deliveries P order
  pub whole : is_settled answer ≡ true → names_of letters ≡ deliveries P order
  pub at_rest : is_settled answer ≡ true → IsAtRest stands P letters peers now.pending
  pub ends : EndsAs (ending P order) answer
  pub none_left : answer ≡ Ok played.Complete → now.pending ≡ no_letters
