-- Which files fit a job: they have the sizes that it states, and are sound in the form in which they are read.
use Rattle.std.specs.Prelude.{◌≡◌, ◌<◌, ◌&&◌, ◌==◌, not, nat_le, if◌then◌else◌, ℕ, Bool, List, Option, length, map, sum}
use Rattle.std.specs.List.{list_all, find}
use Rattle.tables.specs.Indices.{count_from}
use Rattle.mm_text.specs.declared.file_data.Form.{Form}
use Rattle.mm_text.specs.declared.file_data.Form.TheVariants.{Array, Coordinate}
use Rattle.mm_text.specs.Reading.{File}
use Rattle.mm_text.specs.Sound.{IsSound, IsDense}
use Rattle.model_defs.specs.declared.job.Job.{Job}
use Rattle.model_defs.specs.Limits.{most_indices}
use Rattle.model_defs.specs.Maps.{size_of, list_of}
use Rattle.model_defs.specs.Makers.{Maker, GivenVector, GivenParts, GivenMatrix, Made, makers, maker_of, value_count}
use Rattle.model_defs.specs.Given.{file_count, value_file}

-- how a job has a file read, and the sizes that it states
pub record Expected : Type 0 where
  pub form : Form
  pub rows : ℕ
  pub cols : ℕ

-- a vector on a large map is read from its places, any other from all its cells
abbrev pub vector_form : ℕ → Form
vector_form size = if nat_le size most_indices then Array else Coordinate

-- what a value's file of a part is to be: the file of a part has a row for each index of the rank's list
abbrev pub expected_file : Job → Maker → ℕ → Expected
expected_file job (GivenVector spec) part = record { form = vector_form (size_of job spec.map); rows = size_of job spec.map; cols = spec.columns }
expected_file job (GivenParts spec) part = record { form = Array; rows = length (list_of job spec.map part); cols = spec.columns }
expected_file job (GivenMatrix spec) part = record { form = Coordinate; rows = size_of job spec.rows; cols = size_of job spec.domain }
expected_file job (Made step) part = record { form = Coordinate; rows = 0; cols = 0 }

abbrev pub has_sizes : Expected → File → Bool
has_sizes want file = (file.rows == want.rows) && (file.cols == want.cols)

-- whether all files of value k have the sizes that the job states, and the first value of which one has not
abbrev pub is_sized : Job → List File → ℕ → Bool
is_sized job files k =
    list_all (λ part. has_sizes (expected_file job (maker_of job k) part) (value_file job files k part)) (count_from 0 (file_count (maker_of job k)))

abbrev pub first_unfit : Job → List File → Option ℕ
first_unfit job files = find (λ k. not (is_sized job files k)) (count_from 0 (value_count job))

-- a file of these sizes, sound in this form
pub record IsExpected (want : Expected) (file : File) : Type 0 where
  pub rows_are : file.rows ≡ want.rows
  pub cols_are : file.cols ≡ want.cols
  pub sound : IsSound file
  pub dense : want.form ≡ Array → IsDense file

-- how many files a job names
abbrev pub file_total : Job → ℕ
file_total job = sum (map file_count (makers job))

pub record IsFitting (job : Job) (files : List File) : Type 0 where
  pub count : length files ≡ file_total job
  pub each : (k part : ℕ) → k < value_count job → part < file_count (maker_of job k)
      → IsExpected (expected_file job (maker_of job k) part) (value_file job files k part)
