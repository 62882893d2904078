-- What reading the files of a job answers, and what it does to the files.
use Rattle.std.specs.Prelude.{◌≡◌, ◌<◌, ◌≤◌, ℕ, List, Option, Some, Result, Ok, Err, Vec, length, map}
use Rattle.std.specs.Global.{Global}
use Rattle.std.specs.List.{IsAmong, slice_index_or}
use Rattle.outside.specs.Faults.{Rose}
use Rattle.outside.specs.Reads.{AgreesWith, Source}
use Rattle.std.specs.Borrow.{Bor}
use Rattle.mm_text.specs.declared.fault.MmFault.{MmFault}
use Rattle.mm_text.specs.declared.fault.MmFault.TheVariants.{ReadFault, NoBanner, BadBanner, UnsupportedField, UnsupportedSymmetry, WrongForm, BadSize, BadLine, OutOfRange, NotSquare, SkewDiagonal, TooFew, Extra, NumberTooWide, TooManyEntries, TooLong, NoMem}
use Rattle.mm_text.specs.declared.file_data.FileData.{FileData}
use Rattle.mm_text.specs.Outcomes.{IsTextFault}
use Rattle.mm_text.specs.Reading.{File, IsFile, file_of}
use Rattle.model_defs.specs.declared.job.Job.{Job}
use Rattle.job_files.specs.declared.fault.FilesFault.{FilesFault}
use Rattle.job_files.specs.declared.fault.FilesFault.TheVariants.{Memory, Unread, Refused}
use Rattle.job_files.specs.declared.held.HeldText.{HeldText}
use Rattle.job_files.specs.Held.{GivesHeld}
use Rattle.job_files.specs.Walk.{refused, file_read, files_within, names_within, most_entries}
use Rattle.job_files.specs.Wanted.{Wanted, profile_for, wanted}

-- what is answered where these files are wanted, by a source of texts
abbrev pub GivesWithin : Source → ℕ → List Wanted → Result (Vec FileData Global) FilesFault → Type 0
GivesWithin source room ws (Ok files) = files_within source room ws ≡ Ok (map file_of files.items)
GivesWithin source room ws (Err Memory) = Unit {0}
GivesWithin source room ws (Err (Unread name)) = IsAmong (names_within source room ws) name.now
GivesWithin source room ws (Err (Refused name fault)) = files_within source room ws ≡ Err (refused name.now fault)

-- what is answered for the files of a job: all files, or the first refusal; a name that could not be read is one that is
-- read for the job
abbrev pub GivesFiles : Source → Job → Result (Vec FileData Global) FilesFault → Type 0
GivesFiles source job answer = GivesWithin source most_entries (wanted job) answer

-- the answer is a read that failed
abbrev pub IsUnread : {T : Type 0} → Result T FilesFault → Type 0
IsUnread (Ok x) = ⊥
IsUnread (Err Memory) = ⊥
IsUnread (Err (Unread name)) = Unit {0}
IsUnread (Err (Refused name fault)) = ⊥

-- the count rose of the file that the answer names as unread
abbrev pub RoseAt : {T : Type 0} → (List ℕ → ℕ) → (List ℕ → ℕ) → Result T FilesFault → Type 0
RoseAt before after (Ok x) = Unit {0}
RoseAt before after (Err Memory) = Unit {0}
RoseAt before after (Err (Unread name)) = Rose (before name.now) (after name.now)
RoseAt before after (Err (Refused name fault)) = Unit {0}

-- Between `old` and `new` files were read. The files stay, and no count of faults falls. An answer that is unread says
-- that the count of the name rose, and else all counts are as before.
pub record ReadsMany {F T : Type 0} (told : F → Option Source) (faults : F → List ℕ → ℕ) (old new : F)
    (answer : Result T FilesFault) : Type 0 where
  pub same_files : told new ≡ told old
  pub never_falls : (name : List ℕ) → faults old name ≤ faults new name
  pub fault : RoseAt (faults old) (faults new) answer
  pub no_fault : (IsUnread answer → ⊥) → (name : List ℕ) → faults new name ≡ faults old name

-- What a source has been seen to give: the text of a wanted name is read as this file, with room for some number of entries.
pub record IsRead (source : Source) (w : Wanted) (file : File) : Type 0 where
  pub room : ℕ
  pub text : List ℕ
  pub named : source w.name ≡ Some text
  pub is : IsFile (profile_for room w.kind) text file

-- the same of the first of the wanted files
abbrev pub AreRead : Source → List Wanted → List File → Type 0
AreRead source ws files =
    (k : ℕ) (d : Wanted) (e : File) → k < length files → IsRead source (slice_index_or ws k d) (slice_index_or files k e)

-- what is answered for the next file
abbrev pub GivesNext : Source → ℕ → Wanted → Result FileData MmFault → Type 0
GivesNext source room w (Ok found) = file_read source room w ≡ Ok (file_of found)
GivesNext source room w (Err fault) = IsTextFault fault → file_read source room w ≡ Err (refused w.name fault)

-- Some source passes that gives the names read before the same texts as the source before it.
pub record Extends (told : Option Source) (held : List HeldText) (ws : List Wanted) (before : Source) (P : Source → Type 0) : Type 0 where
  pub source : Source
  pub agrees : AgreesWith told source
  pub gives : GivesHeld held source
  pub same : (k : ℕ) (d : Wanted) → k < length ws → source (slice_index_or ws k d).name ≡ before (slice_index_or ws k d).name
  pub passes : P source

-- What is answered for the next file behind these: from each source that has been seen to give those there is one more,
-- which gives the next one too.
abbrev pub AnswersNext : Option Source → List HeldText → List Wanted → List File → ℕ → Wanted → Result FileData MmFault → Type 0
AnswersNext told held ws files room w answer =
    (before : Source) → AgreesWith told before → GivesHeld held before → AreRead before ws files
    → Extends told held ws before (λ source. GivesNext source room w answer)

-- the fault at a fault of reading the file of this name
abbrev pub fault_at : Bor (List ℕ) → MmFault → FilesFault
fault_at name ReadFault = Unread name
fault_at name NoMem = Memory
fault_at name NoBanner = Refused name NoBanner
fault_at name BadBanner = Refused name BadBanner
fault_at name UnsupportedField = Refused name UnsupportedField
fault_at name UnsupportedSymmetry = Refused name UnsupportedSymmetry
fault_at name WrongForm = Refused name WrongForm
fault_at name BadSize = Refused name BadSize
fault_at name (BadLine line) = Refused name (BadLine line)
fault_at name (OutOfRange line) = Refused name (OutOfRange line)
fault_at name NotSquare = Refused name NotSquare
fault_at name (SkewDiagonal line) = Refused name (SkewDiagonal line)
fault_at name (TooFew have) = Refused name (TooFew have)
fault_at name (Extra line) = Refused name (Extra line)
fault_at name (NumberTooWide line) = Refused name (NumberTooWide line)
fault_at name TooManyEntries = Refused name TooManyEntries
fault_at name TooLong = Refused name TooLong

-- what is answered for the next file, with its name
abbrev pub GivesNamed : Source → ℕ → Wanted → Result FileData FilesFault → Type 0
GivesNamed source room w (Ok found) = file_read source room w ≡ Ok (file_of found)
GivesNamed source room w (Err Memory) = Unit {0}
GivesNamed source room w (Err (Unread name)) = name.now ≡ w.name
GivesNamed source room w (Err (Refused name fault)) = (name.now ≡ w.name) × (file_read source room w ≡ Err (refused w.name fault))

abbrev pub NamesNext : Option Source → List HeldText → List Wanted → List File → ℕ → Wanted → Result FileData FilesFault → Type 0
NamesNext told held ws files room w answer =
    (before : Source) → AgreesWith told before → GivesHeld held before → AreRead before ws files
    → Extends told held ws before (λ source. GivesNamed source room w answer)
