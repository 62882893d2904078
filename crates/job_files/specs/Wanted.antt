-- The files that a job wants, in the order in which they are read.
use Rattle.std.specs.Prelude.{ℕ, List, [], ◌∷◌, map, nat_le, if◌then◌else◌}
use Rattle.std.specs.List.{flat_map}
use Rattle.mm_text.specs.declared.file_data.Form.{Form}
use Rattle.mm_text.specs.declared.file_data.Form.TheVariants as form
use Rattle.mm_text.specs.declared.profile.Profile.{Profile}
use Rattle.mm_text.specs.Limits.{profile_of}
use Rattle.model_defs.specs.declared.job.Job.{Job}
use Rattle.model_defs.specs.Given.{origin_files}
use Rattle.model_defs.specs.Limits.{most_indices, most_size}
use Rattle.model_defs.specs.Makers.{Maker, GivenVector, GivenParts, GivenMatrix, Made, makers}
use Rattle.model_defs.specs.Maps.{size_of}
use Rattle.job_files.specs.declared.wanted.FileKind.{FileKind}
use Rattle.job_files.specs.declared.wanted.FileKind.TheVariants.{Array, Coordinate, LargeCoordinate}
use Rattle.job_files.specs.declared.wanted.WantedFile.{WantedFile}

-- a file that is wanted
pub record Wanted : Type 0 where
  pub name : List ℕ
  pub kind : FileKind

abbrev pub wanted_as : FileKind → List ℕ → Wanted
wanted_as kind name = record { name = name; kind = kind }

-- the form of a file, and the most rows that it may have: 2^40 where a large vector is read from its places, else 2^24
abbrev pub form_of : FileKind → Form
form_of Array = form.Array
form_of Coordinate = form.Coordinate
form_of LargeCoordinate = form.Coordinate

abbrev pub most_rows_of : FileKind → ℕ
most_rows_of Array = most_indices
most_rows_of Coordinate = most_indices
most_rows_of LargeCoordinate = most_size

-- the profile by which it is read, where there is room for so many entries
abbrev pub profile_for : ℕ → FileKind → Profile
profile_for room kind = profile_of (form_of kind) room (most_rows_of kind)

-- a vector on a map of this size is read from all its cells, or where the map is large from its places
abbrev pub vector_kind : ℕ → FileKind
vector_kind size = if nat_le size most_indices then Array else LargeCoordinate

-- the files of a value: one of a vector, one a rank of parts, one of a matrix
abbrev pub wanted_by : Job → Maker → List Wanted
wanted_by job (GivenVector spec) = map (wanted_as (vector_kind (size_of job spec.map))) (origin_files spec.from)
wanted_by job (GivenParts spec) = map (wanted_as Array) (origin_files spec.from)
wanted_by job (GivenMatrix spec) = wanted_as Coordinate spec.file ∷ []
wanted_by job (Made step) = []

-- the files of all values, in the order of the values: vectors, parts with the ranks ascending, matrices
abbrev pub wanted : Job → List Wanted
wanted job = flat_map (wanted_by job) (makers job)

-- wanted files as the code holds them
abbrev pub seen : List WantedFile → List Wanted
seen files = map (λ w. wanted_as w.kind w.name.now) files
