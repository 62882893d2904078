-- What the steps of a command answer.
use Rattle.std.specs.Prelude.{◌≡◌, ℕ, Bool, true, List, Option, Some, Result, Ok, Err}
use Rattle.std.specs.Borrow.{Bor}
use Rattle.std.specs.List.{IsAmong}
use Rattle.outside.specs.Faults.{Rose}
use Rattle.outside.specs.Reads.{HasText, Source}
use Rattle.mm_text.specs.Reading.{HasFault}
use Rattle.mm_text.specs.declared.fault.MmFault.{MmFault}
use Rattle.mm_text.specs.declared.fault.MmFault.TheVariants.{ReadFault, NoBanner, BadBanner, UnsupportedField, UnsupportedSymmetry, WrongForm, BadSize, BadLine, OutOfRange, NotSquare, SkewDiagonal, TooFew, Extra, NumberTooWide, TooManyEntries, TooLong, NoMem}
use Rattle.run_input.specs.declared.fault.InputFault.{InputFault}
use Rattle.run_input.specs.declared.fault.InputFault.TheVariants as input
use Rattle.run_input.specs.declared.fault.TextFault.TheVariants.{Matrix}
use Rattle.run_input.specs.declared.name.FileName.TheVariants.{Word}
use Rattle.run_input.specs.Reading.{name_text}
use Rattle.tpx.specs.declared.fault.Fault.{Fault}
use Rattle.tpx.specs.declared.fault.Fault.TheVariants.{Memory, NoCommand, Unread, Unwritten, Refused, Undelivered, Overflow, WrongLine, WireFailed}
use Rattle.tpx.specs.Endings.{Ending, EndsWith, no_command, overflow, refused, shown_profile, undelivered, wrong_line}
use Rattle.tpx.specs.Streams.{TakesText, TakesPart}
use Rattle.tpx.specs.Words.{Command, gen, run}

-- the answer is a read that failed
abbrev pub IsUnread : {T : Type 0} → Result T Fault → Type 0
IsUnread (Err (Unread file)) = Unit {0}
IsUnread _ = ⊥

-- the answer is that the words are no command
abbrev pub IsNoCommand : {T : Type 0} → Result T Fault → Type 0
IsNoCommand (Err NoCommand) = Unit {0}
IsNoCommand _ = ⊥

-- the answer is that the wire failed
abbrev pub IsWireFailed : {T : Type 0} → Result T Fault → Type 0
IsWireFailed (Err WireFailed) = Unit {0}
IsWireFailed _ = ⊥

-- the fault of the command at a fault of reading a matrix from this file
abbrev pub fault_at : Bor (List ℕ) → MmFault → Fault
fault_at file ReadFault = Unread (Word file)
fault_at file NoMem = Memory
fault_at file NoBanner = Refused (Word file) (Matrix NoBanner)
fault_at file BadBanner = Refused (Word file) (Matrix BadBanner)
fault_at file UnsupportedField = Refused (Word file) (Matrix UnsupportedField)
fault_at file UnsupportedSymmetry = Refused (Word file) (Matrix UnsupportedSymmetry)
fault_at file WrongForm = Refused (Word file) (Matrix WrongForm)
fault_at file BadSize = Refused (Word file) (Matrix BadSize)
fault_at file (BadLine line) = Refused (Word file) (Matrix (BadLine line))
fault_at file (OutOfRange line) = Refused (Word file) (Matrix (OutOfRange line))
fault_at file NotSquare = Refused (Word file) (Matrix NotSquare)
fault_at file (SkewDiagonal line) = Refused (Word file) (Matrix (SkewDiagonal line))
fault_at file (TooFew have) = Refused (Word file) (Matrix (TooFew have))
fault_at file (Extra line) = Refused (Word file) (Matrix (Extra line))
fault_at file (NumberTooWide line) = Refused (Word file) (Matrix (NumberTooWide line))
fault_at file TooManyEntries = Refused (Word file) (Matrix TooManyEntries)
fault_at file TooLong = Refused (Word file) (Matrix TooLong)

-- a fault that comes where the file of this name is read
abbrev pub StopsReading : Option Source → List ℕ → Fault → Type 0
StopsReading told name Memory = Unit {0}
StopsReading told name (Unread file) = name_text file ≡ name
StopsReading told name (Refused file (Matrix fault)) =
    (name_text file ≡ name) × HasText told name (λ text. HasFault shown_profile text fault)
StopsReading told name _ = ⊥

-- a fault that comes where numbers are gathered and shown; `over` says whether one is over
abbrev pub StopsShowing : Bool → Fault → Type 0
StopsShowing over Memory = Unit {0}
StopsShowing over Overflow = over ≡ true
StopsShowing over _ = ⊥

-- the fault of the command at a fault of what a run is given
abbrev pub fault_given : InputFault → Fault
fault_given input.Memory = Memory
fault_given (input.Unread name) = Unread name
fault_given (input.Refused name fault) = Refused name fault

-- the answer of a call that writes
abbrev pub Touches : Result (Unit {0}) Fault → Type 0
Touches (Ok x) = Unit {0}
Touches (Err Unwritten) = Unit {0}
Touches _ = ⊥

-- what a command answers that has this ending, and what `out` then took
abbrev pub Gives : {S : Type 0} → (S → Option (List ℕ)) → S → S → Result (Unit {0}) Fault → Ending → Type 0
Gives told old now (Ok x) ending = TakesText told old now ending
Gives told old now (Err Unwritten) ending = TakesPart told old now ending
Gives told old now (Err Memory) ending = Unit {0}
Gives told old now (Err (Unread file)) ending = ending ≡ no_command → ⊥
Gives told old now (Err NoCommand) ending = ending ≡ no_command
Gives told old now (Err (Refused file fault)) ending = ending ≡ refused (name_text file) fault
Gives told old now (Err Overflow) ending = ending ≡ overflow
Gives told old now (Err (Undelivered names)) ending = ending ≡ undelivered names.items
Gives told old now (Err (WrongLine line name)) ending = ending ≡ wrong_line line name
Gives told old now (Err WireFailed) ending = EndsWith ending 9

-- a file that could not be read has one of these names
abbrev pub UnreadIsAmong : {T : Type 0} → List (List ℕ) → Result T Fault → Type 0
UnreadIsAmong names (Err (Unread file)) = IsAmong names (name_text file)
UnreadIsAmong names _ = Unit {0}

-- the count of the file rose that the answer names as unread
abbrev pub RoseAt : {T : Type 0} → (List ℕ → ℕ) → (List ℕ → ℕ) → Result T Fault → Type 0
RoseAt before after (Err (Unread file)) = Rose (before (name_text file)) (after (name_text file))
RoseAt before after _ = Unit {0}

-- ranks are played in the command, and with this status they may have begun
abbrev pub MayHaveRun : Option Command → ℕ → Type 0
MayHaveRun (Some (run c)) status = (status ≡ 2 → ⊥) × (status ≡ 3 → ⊥) × (status ≡ 5 → ⊥)
MayHaveRun (Some (gen n)) status = (status ≡ 2 → ⊥) × (status ≡ 3 → ⊥) × (status ≡ 5 → ⊥)
MayHaveRun _ status = ⊥

-- an answer where the play of the ranks may have begun
abbrev pub HasPlayed : {T : Type 0} → Result T Fault → Type 0
HasPlayed (Err (Unread file)) = ⊥
HasPlayed (Err (Refused file fault)) = ⊥
HasPlayed (Err NoCommand) = ⊥
HasPlayed _ = Unit {0}
