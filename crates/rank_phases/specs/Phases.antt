-- A protocol whose letters go phase by phase: a rank posts its letters of a phase when it was given all letters to it of
-- the phases before.
use Rattle.std.specs.Prelude.{◌≡◌, ℕ, zero, suc, ◌<◌, true, not, ◌&&◌, ◌==◌, nat_le, nat_lt, List, [], ◌∷◌, ◌++◌, map}
use Rattle.std.specs.List.{filter, list_all}
use Rattle.std.specs.List.Sorted.{IsStrictlySortedBy}
use Rattle.outside.specs.declared.name.Name.{Name}
use Rattle.peers.specs.Protocols.{Protocol, name_cmp, only, stands_in}
use Rattle.peers.specs.Peers.{was_given}

-- the letters to a rank of one phase, in the order given
abbrev pub arrivals : ℕ → ℕ → List (Name × List ℕ) → List (Name × List ℕ)
arrivals phase rank letters = filter (λ l. (l.0.phase == phase) && (l.0.to == rank)) letters

-- the phases do not descend along the list
abbrev pub AreByPhase : List Name → Type 0
AreByPhase [] = Unit {0}
AreByPhase (n ∷ ns) = (list_all (λ m. nat_le n.phase m.phase) ns ≡ true) × AreByPhase ns

-- The letters go phase by phase, and what a rank sends in a phase depends on the letters of each earlier phase that it
-- was given, in their order.
pub record IsPhased (protocol : Protocol) (phases : ℕ) : Type 0 where
  pub in_order : AreByPhase protocol.names
  pub below : (n : Name) → stands_in protocol.names n ≡ true → n.phase < phases
  pub waits : (n : Name) → protocol.before n ≡ filter (λ m. (m.to == n.from) && nat_lt m.phase n.phase) protocol.names
  pub content : (n : Name) (g h : List (Name × List ℕ)) → ((k : ℕ) → k < n.phase → arrivals k n.from g ≡ arrivals k n.from h)
      → protocol.content n g ≡ protocol.content n h

-- What makes a protocol go phase by phase: before a letter come all letters to its sender of the phases before its own,
-- and what its sender makes depends on these alone, of each phase in the order given.
pub record GoesByPhase (protocol : Protocol) (phases : ℕ) : Type 0 where
  pub ordered : IsStrictlySortedBy name_cmp protocol.names
  pub from_rank : (n : Name) → stands_in protocol.names n ≡ true → n.from < protocol.ranks
  pub to_rank : (n : Name) → stands_in protocol.names n ≡ true → n.to < protocol.ranks
  pub below : (n : Name) → stands_in protocol.names n ≡ true → n.phase < phases
  pub waits : (n : Name) → protocol.before n ≡ filter (λ m. (m.to == n.from) && nat_lt m.phase n.phase) protocol.names
  pub made_of_before : (n : Name) (given : List (Name × List ℕ)) → protocol.content n given ≡ protocol.content n (only (protocol.before n) given)
  pub by_phase : (n : Name) (g h : List (Name × List ℕ)) → ((k : ℕ) → arrivals k n.from g ≡ arrivals k n.from h)
      → protocol.content n g ≡ protocol.content n h

-- the names of the letters of a phase to a rank
abbrev pub names_to : List Name → ℕ → ℕ → List Name
names_to names phase rank = filter (λ n. (n.phase == phase) && (n.to == rank)) names

-- the names of the letters of a phase from a rank
abbrev pub names_from : List Name → ℕ → ℕ → List Name
names_from names phase rank = filter (λ n. (n.phase == phase) && (n.from == rank)) names

-- the letters of one phase, in the order given
abbrev pub of_phase : ℕ → List (Name × List ℕ) → List (Name × List ℕ)
of_phase phase letters = filter (λ l. l.0.phase == phase) letters

-- the letters of a phase and of those after it, in the order given
abbrev pub from_phase : ℕ → List (Name × List ℕ) → List (Name × List ℕ)
from_phase phase letters = filter (λ l. nat_le phase l.0.phase) letters

-- the letters of the first phases as a rank absorbs them: phase by phase, and those of one phase in the order given
abbrev pub absorbed : ℕ → List (Name × List ℕ) → List (Name × List ℕ)
absorbed zero letters = []
absorbed (suc phase) letters = absorbed phase letters ++ of_phase phase letters

-- the letters that a rank posts in the first phases, by phase, then receiver
abbrev pub posts : Protocol → ℕ → ℕ → List (Name × List ℕ) → List (Name × List ℕ)
posts protocol rank entered letters =
    map (λ n. (n, protocol.content n letters)) (filter (λ n. (n.from == rank) && nat_lt n.phase entered) protocol.names)

-- the names of the letters that a rank still awaits in the last phase that it entered
abbrev pub awaited : Protocol → ℕ → ℕ → List (Name × List ℕ) → List Name
awaited protocol rank zero letters = []
awaited protocol rank (suc phase) letters = filter (λ n. not (was_given letters n)) (names_to protocol.names phase rank)
