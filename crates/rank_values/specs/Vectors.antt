-- A rank's vectors by global indices, and the numbers of lines and cells in them.
use Rattle.std.specs.Prelude.{◌≡◌, ℕ, Bool, true, false, Option, None, Some, List}
use Rattle.std.specs.Option.{option_and_then}
use Rattle.scalar_laws.specs.Semiring.{Semiring}
use Rattle.scalar_laws.specs.Conversions.{Conversions}
use Rattle.tables.specs.Tables.{Table}
use Rattle.tables.specs.Indices.{stands}
use Rattle.map_core.specs.Layouts.{local_index}
use Rattle.mm_text.specs.declared.file_data.Line.{Line}
use Rattle.mm_text.specs.declared.file_data.Mirror.TheVariants.{Plain}
use Rattle.model_defs.specs.FileMatrix.{file_matrix}
use Rattle.model_defs.specs.Operations.{completed}
use Rattle.multivector.specs.Vectors.{VectorState, vector_table}

-- The numbers of a vector by global index and column.
abbrev pub global_table : {S : Type 0} → VectorState S → Table S
global_table v i j = option_and_then (λ l. vector_table v l j) (local_index v.map i)

-- The table of lines: at each place that is named the sum over the lines that name it.
abbrev pub lines_table : {S : Type 0} → Semiring S → Conversions S → List Line → Table S
lines_table R F lines = file_matrix R F Plain lines

-- On the indices of a list, in so many columns, at each place the sum of the lines that name it, or nought.
abbrev pub lines_on : {S : Type 0} → Semiring S → Conversions S → List ℕ → ℕ → List Line → Table S
lines_on R F list columns lines = completed R (λ i. stands i list) columns (lines_table R F lines)

-- Whether there is a number that is over.
abbrev pub is_over_there : {S : Type 0} → Conversions S → Option S → Bool
is_over_there F None = false
is_over_there F (Some a) = F.is_over a

-- Some number of a table is over.
abbrev pub HasOver : {S : Type 0} → Conversions S → Table S → Type 0
HasOver F t = (i : ℕ) × ((j : ℕ) × (is_over_there F (t i j) ≡ true))
