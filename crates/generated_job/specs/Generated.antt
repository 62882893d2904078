-- The job that is made of a size n alone, without a text: a matrix with 2 on its diagonal and -1 beside it, its square, and
-- both applied to a vector.
use Rattle.std.specs.Prelude.{ℕ, ◌+◌, pos, negsuc, false, nat_lt, if◌then◌else◌, List, [], ◌∷◌, None, map, codes}
use Rattle.std.specs.List.{flat_map}
use Rattle.tables.specs.Indices.{count_from}
use Rattle.mm_text.specs.declared.file_data.Line.{Line}
use Rattle.mm_text.specs.declared.file_data.Mirror.TheVariants.{Plain}
use Rattle.mm_text.specs.Reading.{File}
use Rattle.model_defs.specs.declared.job.Job.{Job}
use Rattle.model_defs.specs.declared.job.MapForm.TheVariants.{Uniform, Cyclic}
use Rattle.model_defs.specs.declared.job.MapSpec.{MapSpec}
use Rattle.model_defs.specs.declared.job.MatrixSpec.{MatrixSpec}
use Rattle.model_defs.specs.declared.job.Origin.TheVariants.{Files}
use Rattle.model_defs.specs.declared.job.Step.{Step}
use Rattle.model_defs.specs.declared.job.Step.TheVariants.{Apply, Move, Multiply, Print}
use Rattle.model_defs.specs.declared.job.VectorSpec.{VectorSpec}

-- the greatest size
abbrev pub most_generated : ℕ
most_generated = 1000000

-- the map u, on which each rank has consecutive indices, and the map m, on which they go round
abbrev pub uniform_map : ℕ → MapSpec
uniform_map n = record { name = codes "u"; size = n; form = Uniform }

abbrev pub cyclic_map : ℕ → MapSpec
cyclic_map n = record { name = codes "m"; size = n; form = Cyclic }

-- the vector x0 on m, and the matrix A, with its rows and its domain on u
abbrev pub vector_spec : VectorSpec
vector_spec = record { name = codes "x0"; map = 1; columns = 1; from = Files (codes "x0" ∷ []) }

abbrev pub matrix_spec : MatrixSpec
matrix_spec = record { name = codes "A"; split = false; rows = 0; domain = 0; file = codes "A" }

-- x is x0 on u, y = A x, s = A A, z = s x; then y, s and z are printed
abbrev pub statements : List Step
statements =
    Move (codes "x") 0 0
    ∷ Apply (codes "y") 1 2 None (pos 1) (pos 0) false
    ∷ Multiply (codes "s") 1 1
    ∷ Apply (codes "z") 4 2 None (pos 1) (pos 0) false
    ∷ Print 3 ∷ Print 4 ∷ Print 5 ∷ []

abbrev pub generated_job : ℕ → Job
generated_job n = record {
  ranks = 4;
  maps = uniform_map n ∷ cyclic_map n ∷ [];
  vectors = vector_spec ∷ [];
  parts = [];
  matrices = matrix_spec ∷ [];
  steps = statements;
}

-- x0 has i + 1 at index i
abbrev pub vector_line : ℕ → Line
vector_line i = record { row = i; col = 0; value = pos (i + 1) }

abbrev pub vector_file : ℕ → File
vector_file n = record { rows = n; cols = 1; mirror = Plain; lines = map vector_line (count_from 0 n) }

-- A has 2 at (i, i), and -1 at (i, i + 1) and at (i + 1, i), where i + 1 is an index
abbrev pub beside_lines : ℕ → List Line
beside_lines i = record { row = i; col = i + 1; value = negsuc 0 } ∷ record { row = i + 1; col = i; value = negsuc 0 } ∷ []

abbrev pub matrix_lines : ℕ → ℕ → List Line
matrix_lines n i = record { row = i; col = i; value = pos 2 } ∷ (if nat_lt (i + 1) n then beside_lines i else [])

abbrev pub matrix_file : ℕ → File
matrix_file n = record { rows = n; cols = n; mirror = Plain; lines = flat_map (matrix_lines n) (count_from 0 n) }

-- the files of its given values
abbrev pub generated_files : ℕ → List File
generated_files n = vector_file n ∷ matrix_file n ∷ []
