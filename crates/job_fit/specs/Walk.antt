-- The values of a job, one after the other, and the files of each.
use Rattle.std.specs.Prelude.{ℕ, ◌+◌, ◌-◌, Bool, not, List, Option, map, sum, take}
use Rattle.std.specs.List.{list_all, find, slice_index_or}
use Rattle.tables.specs.Indices.{count_from}
use Rattle.mm_text.specs.Reading.{File}
use Rattle.model_defs.specs.declared.job.Job.{Job}
use Rattle.model_defs.specs.Fitting.{expected_file, has_sizes, is_sized}
use Rattle.model_defs.specs.Given.{no_file, file_count}
use Rattle.model_defs.specs.Makers.{Maker, makers, value_count}

-- how many files the values before value k have: the place of its first file
abbrev pub files_before : Job → ℕ → ℕ
files_before job k = sum (map file_count (take k (makers job)))

-- whether the file of a part of a value, whose files stand from a place on, has the sizes that the job states
abbrev pub part_fits : Job → List File → ℕ → Maker → ℕ → Bool
part_fits job files at maker part = has_sizes (expected_file job maker part) (slice_index_or files (at + part) no_file)

-- whether all of them do
abbrev pub parts_fit : Job → List File → ℕ → Maker → Bool
parts_fit job files at maker = list_all (part_fits job files at maker) (count_from 0 (file_count maker))

-- the first value from value k on of which one does not
abbrev pub unfit_from : Job → List File → ℕ → Option ℕ
unfit_from job files k = find (λ v. not (is_sized job files v)) (count_from k (value_count job - k))
