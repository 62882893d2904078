-- What the text of a file that was read is in another form and within other limits, by what was read of it.
use Rattle.std.specs.Prelude.{◌≡◌, ◌||◌, ℕ, Ok, Err, length, nat_lt, if◌then◌else◌}
use Rattle.mm_text.specs.declared.fault.MmFault.TheVariants.{BadSize, TooManyEntries, WrongForm}
use Rattle.mm_text.specs.declared.file_data.Form.{Form}
use Rattle.mm_text.specs.declared.profile.Profile.{Profile}
use Rattle.mm_text.specs.Banner.{same_form}
use Rattle.mm_text.specs.Lines.{Text}
use Rattle.mm_text.specs.Outcomes.{Outcome}
use Rattle.mm_text.specs.Reading.{File, IsFile, reading}

-- so many rows, columns and entries, where they keep the limits
abbrev pub within_limits : {A : Type 0} → Profile → ℕ → ℕ → ℕ → A → Outcome A
within_limits profile rows cols count x =
    if nat_lt profile.rows rows || nat_lt profile.cols cols then Err BadSize
    else (if nat_lt profile.entries count then Err TooManyEntries else Ok x)

-- a file of this form, in the form of the profile and within its limits
abbrev pub read_again : Form → Profile → File → Outcome File
read_again form profile file =
    if same_form profile.form form then within_limits profile file.rows file.cols (length file.lines) file else Err WrongForm

-- A text that was read need not be read again: what it is by another profile for as many bytes follows from its file.
abbrev pub TextsAreReadAgain : Type 0
TextsAreReadAgain = (first second : Profile) (text : Text) (file : File) → first.bytes ≡ second.bytes → IsFile first text file
    → reading second text ≡ read_again first.form second file
