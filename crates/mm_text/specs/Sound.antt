-- What holds of every file that is read.
use Rattle.std.specs.Prelude.{◌≡◌, ◌≢◌, ◌<◌, ◌≤◌, ◌*◌, ◌/◌, ◌%◌, ℕ, All, length, slice_index_or, unsigned_abs}
use Rattle.mm_text.specs.declared.file_data.Form.TheVariants.{Array}
use Rattle.mm_text.specs.declared.file_data.Line.{Line}
use Rattle.mm_text.specs.declared.file_data.Mirror.TheVariants.{Plain, Negated}
use Rattle.mm_text.specs.declared.profile.Profile.{Profile}
use Rattle.mm_text.specs.Limits.{widest}
use Rattle.mm_text.specs.Reading.{File}

-- The data of a file are sound: its places are within its sizes, its values within their width, and it has what its
-- symmetry asks for.
pub record IsSound (file : File) : Type 0 where
  pub places : All (λ line. (line.row < file.rows) × (line.col < file.cols)) file.lines
  pub values : All (λ line. unsigned_abs line.value ≤ widest) file.lines
  pub square : file.mirror ≢ Plain → file.rows ≡ file.cols
  pub diagonal : file.mirror ≡ Negated → All (λ line. line.row ≢ line.col) file.lines

-- every place has its one entry, and they come column by column
pub record IsDense (file : File) : Type 0 where
  pub plain : file.mirror ≡ Plain
  pub count : length file.lines ≡ file.rows * file.cols
  pub places : (k : ℕ) (d : Line) → k < length file.lines
      → ((slice_index_or file.lines k d).row ≡ k % file.rows) × ((slice_index_or file.lines k d).col ≡ k / file.rows)

-- the file has the form of the profile, and keeps its limits
pub record KeepsLimits (profile : Profile) (file : File) : Type 0 where
  pub rows : file.rows ≤ profile.rows
  pub cols : file.cols ≤ profile.cols
  pub count : length file.lines ≤ profile.entries
  pub array : profile.form ≡ Array → IsDense file
