-- What the parts of a share ask of the files.
use Rattle.std.specs.Prelude.{ℕ, ◌<◌, List, length, map, sum, take}
use Rattle.std.specs.List.{slice_index_or}
use Rattle.mm_text.specs.Reading.{File}
use Rattle.model_defs.specs.declared.job.Job.{Job}
use Rattle.model_defs.specs.declared.job.Origin.{Origin}
use Rattle.model_defs.specs.declared.job.Origin.TheVariants.{Files, Fill}
use Rattle.model_defs.specs.Fitting.{Expected, IsExpected}
use Rattle.model_defs.specs.Given.{no_file, file_count}
use Rattle.model_defs.specs.Makers.{makers}

-- the file at this place, where there is one
abbrev pub file_at : List File → ℕ → File
file_at files at = slice_index_or files at no_file

-- The file at this place is there and is as the job states it, where the numbers come from files.
abbrev pub HasFile : Expected → List File → ℕ → Origin → Type 0
HasFile want files at (Files names) = (at < length files) × IsExpected want (file_at files at)
HasFile want files at (Fill v) = Unit {0}

-- how many files the values before value k have: the place of its first file
abbrev pub files_before : Job → ℕ → ℕ
files_before job k = sum (map file_count (take k (makers job)))
