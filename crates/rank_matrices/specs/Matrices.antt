-- A rank's matrices by global indices: the rows that lines name, and the sums of an apply.
use Rattle.std.specs.Prelude.{ℕ, Bool, true, false, List, map}
use Rattle.scalar_laws.specs.Semiring.{Semiring}
use Rattle.tables.specs.Indices.{stands}
use Rattle.tables.specs.Tables.{Table}
use Rattle.mm_text.specs.declared.file_data.Line.{Line}
use Rattle.crs_graph.specs.Ascending.{ascending}
use Rattle.crs_graph.specs.Graphs.{Graph}
use Rattle.model_defs.specs.Operations.{completed, product}

-- The rows that lines name, ascending, each once.
abbrev pub named_rows : List Line → List ℕ
named_rows lines = ascending (map (λ l. l.row) lines)

-- The indices of the vector that an apply is given, and those of its sums: columns and rows, or, transposed, rows and columns.
abbrev pub source_list : Bool → Graph → List ℕ
source_list true g = g.rows
source_list false g = g.cols

abbrev pub target_list : Bool → Graph → List ℕ
target_list true g = g.cols
target_list false g = g.rows

-- The product of a matrix and a vector, over the indices below n, in each of so many columns of a list of rows; a sum of no
-- terms is nought.
abbrev pub product_on : {S : Type 0} → Semiring S → List ℕ → ℕ → ℕ → Table S → Table S → Table S
product_on R list columns n a x = completed R (λ i. stands i list) columns (product R n a x)
