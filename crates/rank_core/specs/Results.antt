-- What a rank has in the end.
use Rattle.std.specs.Prelude.{◌≡◌, ℕ, true, false, List, Option, None, Some}
use Rattle.std.specs.List.{find}
use Rattle.std.specs.Option.{option_map}
use Rattle.scalar_laws.specs.Conversions.{Conversions}
use Rattle.tables.specs.Tables.{Table}
use Rattle.outside.specs.declared.name.Name.{Name}
use Rattle.outside.specs.Letters.{same_name}
use Rattle.letter_codec.specs.declared.kind.Kind.{Kind}
use Rattle.letter_codec.specs.Letters.{IsLetter, letter_bytes}
use Rattle.letter_codec.specs.Parts.{IsEntryCount}
use Rattle.peers.specs.Peers.{PeerState, was_given}
use Rattle.peers.specs.Protocols.{Letter, stands_in}
pub use Rattle.rank_values.specs.Vectors.{is_over_there}

-- The rank worked, and was given all letters to it.
pub record IsFinished (s : PeerState) : Type 0 where
  pub worked : s.has_worked ≡ true
  pub given : (n : Name) → stands_in s.protocol.names n ≡ true → n.to ≡ s.me → was_given s.given n ≡ true

-- The numbers of a value that the rank has, by its protocol and the letters given to it.
abbrev pub result_table : {S : Type 0} → Conversions S → PeerState → ℕ → Table S
result_table F s v i j = option_map F.of_wire (s.protocol.results s.me s.given v i j)

-- These bytes are a letter with so many entries.
pub record HasEntries (bytes : List ℕ) (count : ℕ) : Type 0 where
  pub kind : Kind
  pub words : List ℕ
  pub numbers : List ℕ
  pub letter : IsLetter kind words numbers
  pub whole : bytes ≡ letter_bytes kind words numbers
  pub entries : IsEntryCount kind words count

-- the bytes that were given first under a name
abbrev pub letter_given : List Letter → Name → Option (List ℕ)
letter_given given n = option_map (λ l. l.1) (find (λ l. same_name n l.0) given)

-- what is known of the letter of a name: how many entries it has, if it was given
abbrev pub IsEntriesGiven : List Letter → Name → Option ℕ → Type 0
IsEntriesGiven given n None = was_given given n ≡ false
IsEntriesGiven given n (Some count) = (bytes : List ℕ) × (letter_given given n ≡ Some bytes) × HasEntries bytes count
