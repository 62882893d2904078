-- The files of a job over a source of texts, one after the other.
use Rattle.std.specs.Prelude.{ℕ, ◌-◌, List, [], ◌∷◌, Option, None, Some, Result, Ok, Err, length}
use Rattle.outside.specs.Reads.{Source}
use Rattle.mm_text.specs.declared.fault.MmFault.{MmFault}
use Rattle.mm_text.specs.Outcomes.{Outcome}
use Rattle.mm_text.specs.Reading.{File, reading}
use Rattle.model_defs.specs.declared.job.Job.{Job}
use Rattle.job_files.specs.Wanted.{Wanted, profile_for, wanted}

-- where the walk ends before all files are read
pub data Stop : Type 0 where
  -- the text of the file of this name has this fault first
  refused : List ℕ → MmFault → Stop
  -- no file has this name
  no_file : List ℕ → Stop

-- what follows where the walk goes on
infixl 10 ◌>>=◌
abbrev pub ◌>>=◌ : {A B : Type 0} → Result A Stop → (A → Result B Stop) → Result B Stop
(Ok x) >>= next = next x
(Err stop) >>= next = Err stop

abbrev pub or_refused : List ℕ → Outcome File → Result File Stop
or_refused name (Ok file) = Ok file
or_refused name (Err fault) = Err (refused name fault)

abbrev pub text_read : ℕ → Wanted → Option (List ℕ) → Result File Stop
text_read room w None = Err (no_file w.name)
text_read room w (Some text) = or_refused w.name (reading (profile_for room w.kind) text)

-- the file that is wanted, with room for so many entries
abbrev pub file_read : Source → ℕ → Wanted → Result File Stop
file_read source room w = text_read room w (source w.name)

-- the room behind a file
abbrev pub room_behind : ℕ → File → ℕ
room_behind room file = room - length file.lines

-- the files that are wanted, which have together room for so many entries
abbrev pub files_within : Source → ℕ → List Wanted → Result (List File) Stop
files_within source room [] = Ok []
files_within source room (w ∷ ws) = do
  file ← file_read source room w
  files ← files_within source (room_behind room file) ws
  Ok (file ∷ files)

-- the names behind a file, where the walk goes on
abbrev pub names_behind : Result File Stop → (File → List (List ℕ)) → List (List ℕ)
names_behind (Ok file) next = next file
names_behind (Err stop) next = []

-- the names that are read, up to the one at which the walk ends
abbrev pub names_within : Source → ℕ → List Wanted → List (List ℕ)
names_within source room [] = []
names_within source room (w ∷ ws) =
    w.name ∷ names_behind (file_read source room w) (λ file. names_within source (room_behind room file) ws)

-- the most entries of all files of a job together
abbrev pub most_entries : ℕ
most_entries = 8388608

-- the files of a job's given values, or where their reading ends first
abbrev pub files_of : Job → Source → Result (List File) Stop
files_of job source = files_within source most_entries (wanted job)

-- the names that are read for them
abbrev pub file_names_read : Job → Source → List (List ℕ)
file_names_read job source = names_within source most_entries (wanted job)
