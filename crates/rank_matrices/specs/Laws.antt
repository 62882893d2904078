-- What the lines of a matrix that are dealt to a rank stand for.
use Rattle.std.specs.Prelude.{◌≡◌, ◌<◌, ℕ, List}
use Rattle.scalar_laws.specs.Semiring.{Semiring}
use Rattle.scalar_laws.specs.Conversions.{Conversions}
use Rattle.mm_text.specs.declared.file_data.Line.{Line}
use Rattle.mm_text.specs.Reading.{File}
use Rattle.model_defs.specs.declared.job.Job.{Job}
use Rattle.model_defs.specs.declared.job.MatrixSpec.{MatrixSpec}
use Rattle.model_defs.specs.Fitting.{IsFitting}
use Rattle.model_defs.specs.Given.{dealt_part, value_file}
use Rattle.model_defs.specs.Makers.{GivenMatrix, maker_of, value_count}
use Rattle.model_defs.specs.Maps.{size_of}
use Rattle.model_defs.specs.Plans.{one_conversions, one_semiring, rank_rows, rows_of}
use Rattle.model_defs.specs.Shapes.{shape}
use Rattle.model_defs.specs.Valid.{IsValid}
use Rattle.rank_share.specs.Shares.{place_lines}
use Rattle.rank_values.specs.Vectors.{lines_table}
use Rattle.rank_matrices.specs.Matrices.{named_rows}

-- the lines of value k's file that are dealt to rank p
abbrev pub dealt_lines : Job → List File → ℕ → ℕ → List Line
dealt_lines job files k p = place_lines job.ranks p (value_file job files k 0)

-- Their table is the matrix of the entries that are dealt to the rank.
abbrev pub DealtLinesAreParts : Type 0 → Type 0
DealtLinesAreParts S =
    (R : Semiring S) (F : Conversions S) (job : Job) (files : List File) (k p : ℕ)
    → lines_table R F (dealt_lines job files k p) ≡ dealt_part R F job files k p

-- The rows that they name are the rows of this matrix, within the sizes that the job states.
abbrev pub DealtLinesNameRows : Type 0
DealtLinesNameRows =
    (job : Job) (files : List File) → IsValid job → IsFitting job files
    → (k p : ℕ) (spec : MatrixSpec) → k < value_count job → maker_of job k ≡ GivenMatrix spec
    → named_rows (dealt_lines job files k p)
    ≡ rows_of (size_of job (shape job k).rows) (size_of job (shape job k).domain) (dealt_part one_semiring one_conversions job files k p)

-- They are the rows of the rank in the row plan of the matrix.
abbrev pub DealtLinesNameRankRows : Type 0
DealtLinesNameRankRows =
    (job : Job) (files : List File) → IsValid job → IsFitting job files
    → (k p : ℕ) (spec : MatrixSpec) → k < value_count job → maker_of job k ≡ GivenMatrix spec
    → named_rows (dealt_lines job files k p) ≡ rank_rows job files k p
