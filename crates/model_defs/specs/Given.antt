-- The given values of a job: what their files, or a number for each cell, stand for.
use Rattle.std.specs.Prelude.{ℕ, ◌+◌, Bool, true, false, List, [], ◌∷◌, map, length, sum, take}
use Rattle.std.specs.List.{slice_index_or}
use Rattle.std.specs.Option.{option_and_then}
use Rattle.scalar_laws.specs.Semiring.{Semiring}
use Rattle.scalar_laws.specs.Conversions.{Conversions}
use Rattle.tables.specs.Tables.{Table, nowhere}
use Rattle.map_core.specs.Layouts.{local_index}
use Rattle.mm_text.specs.declared.file_data.Mirror.TheVariants.{Plain}
use Rattle.mm_text.specs.Reading.{File}
use Rattle.model_defs.specs.declared.job.Job.{Job}
use Rattle.model_defs.specs.declared.job.VectorSpec.{VectorSpec}
use Rattle.model_defs.specs.declared.job.PartsSpec.{PartsSpec}
use Rattle.model_defs.specs.declared.job.Origin.{Origin}
use Rattle.model_defs.specs.declared.job.Origin.TheVariants.{Files, Fill}
use Rattle.model_defs.specs.FileMatrix.{file_matrix, dealt_matrix, number_of}
use Rattle.model_defs.specs.Maps.{list_of, has_index, is_mapped}
use Rattle.model_defs.specs.Makers.{Maker, GivenVector, GivenParts, GivenMatrix, Made, makers}
use Rattle.model_defs.specs.Operations.{filled, completed}
use Rattle.model_defs.specs.Pieces.{Value}

-- the names of the files of a value
abbrev pub origin_files : Origin → List (List ℕ)
origin_files (Files names) = names
origin_files (Fill value) = []

abbrev pub maker_files : Maker → List (List ℕ)
maker_files (GivenVector spec) = origin_files spec.from
maker_files (GivenParts spec) = origin_files spec.from
maker_files (GivenMatrix spec) = spec.file ∷ []
maker_files (Made step) = []

-- how many files a value has
abbrev pub file_count : Maker → ℕ
file_count m = length (maker_files m)

-- a file without rows, in place of one that is not there
abbrev pub no_file : File
no_file = record { rows = 0; cols = 0; mirror = Plain; lines = [] }

-- a value's file of a part: all files of a job come in the order of the values
abbrev pub value_file : Job → List File → ℕ → ℕ → File
value_file job files k part = slice_index_or files (sum (map file_count (take k (makers job))) + part) no_file

module _ {S : Type 0} (R : Semiring S) (F : Conversions S) (job : Job) (files : List File) where
  abbrev pub matrix_of : File → Table S
  matrix_of file = file_matrix R F file.mirror file.lines

  -- the matrix of the lines of a value's file that are dealt to rank p
  abbrev pub dealt_part : ℕ → ℕ → Table S
  dealt_part k p = dealt_matrix R F (value_file job files k 0).mirror job.ranks p (value_file job files k 0).lines

  -- A vector's file has a row for each index below the size of the map. A place that it does not name is nought, and a
  -- row that the map lacks is not taken.
  abbrev pub given_vector : ℕ → VectorSpec → Origin → Table S
  given_vector k spec (Fill v) = filled (is_mapped job spec.map) spec.columns (number_of R F v)
  given_vector k spec (Files names) = completed R (is_mapped job spec.map) spec.columns (matrix_of (value_file job files k 0))

  -- The file of a part has a row for each index of the rank's list, in its order.
  abbrev pub at_local : List ℕ → Table S → Table S
  at_local list t i j = option_and_then (λ l. t l j) (local_index list i)

  abbrev pub given_part : ℕ → PartsSpec → Origin → ℕ → Table S
  given_part k spec (Fill v) p = filled (has_index job spec.map p) spec.columns (number_of R F v)
  given_part k spec (Files names) p = completed R (has_index job spec.map p) spec.columns (at_local (list_of job spec.map p) (matrix_of (value_file job files k p)))

  -- A split matrix is left as the lines of its file were dealt, another one is the matrix of its file.
  abbrev pub given_matrix : ℕ → Bool → Value S
  given_matrix k true = λ p. dealt_part k p
  given_matrix k false = λ p. matrix_of (value_file job files k 0)

  abbrev pub given : ℕ → Maker → Value S
  given k (GivenVector spec) = λ p. given_vector k spec spec.from
  given k (GivenParts spec) = λ p. given_part k spec spec.from p
  given k (GivenMatrix spec) = given_matrix k spec.split
  given k (Made step) = λ p. nowhere
