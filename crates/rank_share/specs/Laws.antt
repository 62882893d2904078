-- What a share stands for.
use Rattle.std.specs.Prelude.{◌≡◌, ◌<◌, ◌+◌, ℕ, List, [], length}
use Rattle.std.specs.List.{slice_index_or}
use Rattle.scalar_laws.specs.Semiring.{Semiring}
use Rattle.scalar_laws.specs.Conversions.{Conversions}
use Rattle.tables.specs.Tables.{Table}
use Rattle.mm_text.specs.declared.file_data.Line.{Line}
use Rattle.mm_text.specs.declared.file_data.Mirror.TheVariants.{Plain}
use Rattle.mm_text.specs.Reading.{File}
use Rattle.model_defs.specs.declared.job.Job.{Job}
use Rattle.model_defs.specs.FileMatrix.{file_matrix}
use Rattle.model_defs.specs.Fitting.{IsFitting}
use Rattle.model_defs.specs.Given.{given, dealt_part}
use Rattle.model_defs.specs.Makers.{maker_of}
use Rattle.model_defs.specs.Maps.{has_index}
use Rattle.model_defs.specs.Operations.{completed}
use Rattle.model_defs.specs.Pieces.{piece_of}
use Rattle.model_defs.specs.Shapes.{shape}
use Rattle.model_defs.specs.Valid.{IsValid}
use Rattle.rank_share.specs.Shares.{share, cell_count}

-- the table of lines as numbers: at each place that is named the sum over the lines that name it
abbrev pub lines_table : {S : Type 0} → Semiring S → Conversions S → List Line → Table S
lines_table R F lines = file_matrix R F Plain lines

-- Each given vector and parts: rank p's piece has the cells of its list, each the sum of its lines in the share, or nought.
abbrev pub SharesHaveCells : Type 0 → Type 0
SharesHaveCells S =
    (R : Semiring S) (F : Conversions S) (job : Job) (files : List File) → IsValid job → IsFitting job files
    → (p k : ℕ) → p < job.ranks → k < cell_count job
    → piece_of job (shape job k) p (given R F job files k (maker_of job k))
    ≡ completed R (has_index job (shape job k).rows p) (shape job k).columns (lines_table R F (slice_index_or (share job files p).cells k []))

-- Each matrix: the table of the places in the share is the matrix of the entries that are dealt to rank p.
abbrev pub SharesHavePlaces : Type 0 → Type 0
SharesHavePlaces S =
    (R : Semiring S) (F : Conversions S) (job : Job) (files : List File) (p m : ℕ) → m < length job.matrices
    → lines_table R F (slice_index_or (share job files p).places m []) ≡ dealt_part R F job files (cell_count job + m) p
