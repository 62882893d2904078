-- The letters of a mail room.
use Rattle.std.specs.Prelude.{ℕ, Bool, true, false, if◌then◌else◌, List, map, None, Some, Result, Ok, Err}
use Rattle.std.specs.Option.{option_map, option_and_then}
use Rattle.std.specs.Map.{lookup}
use Rattle.outside.specs.declared.name.Name.{Name}
use Rattle.outside.specs.declared.wire_err.WireErr.{WireErr}
use Rattle.outside.specs.declared.wire_err.WireErr.TheVariants.{Memory, Failed}
use Rattle.outside.specs.Faults.{FaultPlan}
use Rattle.outside.specs.Letters.{Letters, same_name}

-- a letter that was posted: its bytes, and whether it was not taken since
pub record PostedLetter : Type 0 where
  pub bytes : List ℕ
  pub is_pending : Bool

-- the letters that were posted last under their names, the letters given in order, and which calls are faults
pub record MailRoomState : Type 0 where
  pub letters : List (Name × PostedLetter)
  pub given : List (Name × List ℕ)
  pub plan : FaultPlan

-- the bytes that were posted last under each name
abbrev pub posted_in : List (Name × PostedLetter) → Letters
posted_in letters n = option_map (λ l. l.bytes) (lookup (same_name n) letters)

-- the bytes of each letter that is pending
abbrev pub pending_in : List (Name × PostedLetter) → Letters
pending_in letters n = option_and_then (λ l. if l.is_pending then Some l.bytes else None) (lookup (same_name n) letters)

-- the names of the letters given
abbrev pub names_of : List (Name × List ℕ) → List Name
names_of given = map (λ g. g.0) given

-- the call was a fault
abbrev pub is_fault : Result (Unit {0}) WireErr → Bool
is_fault (Ok done) = false
is_fault (Err Memory) = false
is_fault (Err Failed) = true
