-- The form and the limits of the files that are read.
use Rattle.std.specs.Prelude.{ℕ, ◌<◌, ◌≤◌, ◌^◌}
use Rattle.mm_text.specs.declared.file_data.Form.{Form}
use Rattle.mm_text.specs.declared.profile.Profile.{Profile}
use Rattle.mm_text.specs.declared.profile.TheConstants.{MOST_BYTES, MOST_COLS, MOST_ROWS, WIDEST}

-- the most bytes of a file
abbrev pub most_bytes : ℕ
most_bytes = MOST_BYTES

-- the most rows that a caller may allow
abbrev pub most_rows : ℕ
most_rows = MOST_ROWS

-- the most columns of a file, and the most rows that a caller may allow for an array
abbrev pub most_cols : ℕ
most_cols = MOST_COLS

-- the greatest magnitude of a value
abbrev pub widest : ℕ
widest = WIDEST

-- the profile with this form, room for so many entries, and so many rows
abbrev pub profile_of : Form → ℕ → ℕ → Profile
profile_of want room most =
    record { form = want; bytes = most_bytes; entries = room; rows = most; cols = most_cols }

-- no limit is above those that the reader can keep
pub record IsReadable (profile : Profile) : Type 0 where
  pub bytes : profile.bytes ≤ most_bytes
  pub entries : profile.entries < 2 ^ 32
  pub rows : profile.rows ≤ most_rows
  pub cols : profile.cols ≤ most_cols
