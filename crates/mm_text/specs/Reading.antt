-- What a text is read as: a file, or its first fault.
use Rattle.std.specs.Prelude.{◌≡◌, ℕ, Bool, List, [], ◌∷◌, Ok, Err, length, take, drop, nat_lt, nat_le, if◌then◌else◌}
use Rattle.mm_text.specs.declared.reading.banner.Banner.{Banner}
use Rattle.mm_text.specs.declared.fault.MmFault.{MmFault}
use Rattle.mm_text.specs.declared.fault.MmFault.TheVariants.{NoBanner, BadSize, TooFew, Extra}
use Rattle.mm_text.specs.declared.file_data.FileData.{FileData}
use Rattle.mm_text.specs.declared.file_data.Line.{Line}
use Rattle.mm_text.specs.declared.file_data.Mirror.{Mirror}
use Rattle.mm_text.specs.declared.profile.Profile.{Profile}
use Rattle.mm_text.specs.declared.reading.sizes.Sizes.{Sizes}
use Rattle.mm_text.specs.Banner.{banner_of}
use Rattle.mm_text.specs.Entries.{entries_of}
use Rattle.mm_text.specs.Lines.{Text, lines_of, words_of, kept_from}
use Rattle.mm_text.specs.Outcomes.{Outcome, ◌>>=◌, at_end}
use Rattle.mm_text.specs.Sizes.{sizes_of}

-- what a file holds
pub record File : Type 0 where
  pub rows : ℕ
  pub cols : ℕ
  pub mirror : Mirror
  pub lines : List Line

abbrev pub file_of : FileData → File
file_of f = record { rows = f.rows; cols = f.cols; mirror = f.mirror; lines = f.lines.items }

-- the entries, where no line is left over
abbrev pub no_more : Bool → List Line → List (ℕ × Text) → Outcome (List Line)
no_more whole lines [] = at_end whole (Ok lines)
no_more whole lines (line ∷ rest) = Err (Extra line.0)

-- the entries, where none is missing
abbrev pub complete : Bool → ℕ → List Line → List (ℕ × Text) → Outcome (List Line)
complete whole count lines rest =
    if nat_lt (length lines) count then at_end whole (Err (TooFew (length lines))) else no_more whole lines rest

-- the entries of the lines after the size line
abbrev pub entries_in : Bool → Banner → Sizes → List (ℕ × Text) → Outcome (List Line)
entries_in whole banner s lines = do
  entries ← entries_of banner s 0 (take s.count lines)
  complete whole s.count entries (drop s.count lines)

-- the file of a banner, of sizes, and of the lines after the size line
abbrev pub body_of : Bool → Banner → Sizes → List (ℕ × Text) → Outcome File
body_of whole banner s lines = do
  entries ← entries_in whole banner s lines
  Ok (record { rows = s.rows; cols = s.cols; mirror = banner.mirror; lines = entries })

-- the file of a banner and of the lines after it that are not skipped
abbrev pub file_sized : Bool → Profile → Banner → List (ℕ × Text) → Outcome File
file_sized whole profile banner [] = at_end whole (Err BadSize)
file_sized whole profile banner (line ∷ lines) = do
  s ← sizes_of banner profile (words_of line.1)
  body_of whole banner s lines

-- the file of these lines
abbrev pub lines_read : Bool → Profile → List Text → Outcome File
lines_read whole profile [] = at_end whole (Err NoBanner)
lines_read whole profile (first ∷ lines) = do
  banner ← banner_of profile.form (words_of first)
  file_sized whole profile banner (kept_from 2 lines)

-- the file of a text, or its first fault in file order; of a text that is too long, those lines are read that end
-- within the most bytes
unfoldable pub reading : Profile → Text → Outcome File
reading profile text =
    let whole = nat_le (length text) profile.bytes in
    lines_read whole profile (lines_of whole (take profile.bytes text))

-- the text is this file, in the form of the profile and within its limits
abbrev pub IsFile : Profile → Text → File → Type 0
IsFile profile text file = reading profile text ≡ Ok file

-- the text has this fault, and none before it
abbrev pub HasFault : Profile → Text → MmFault → Type 0
HasFault profile text fault = reading profile text ≡ Err fault
