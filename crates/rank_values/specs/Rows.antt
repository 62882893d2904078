-- Rows of a vector, as they are listed and tested.
use Rattle.std.specs.Prelude.{ℕ, Bool, List}
use Rattle.std.specs.List.{flat_map, list_any, slice_index_or}
use Rattle.scalar_laws.specs.Conversions.{Conversions}
use Rattle.tables.specs.declared.Cell.{Cell}
use Rattle.tables.specs.Tables.{cell_if}
use Rattle.tables.specs.Indices.{count_from}
use Rattle.multivector.specs.Vectors.{VectorState, vector_table}
use Rattle.rank_values.specs.Vectors.{is_over_there}

-- The cells of the first columns of a row, as cells of the row of this global index.
abbrev pub row_of : {S : Type 0} → VectorState S → ℕ → ℕ → ℕ → List (Cell S)
row_of v lid row columns = flat_map (λ j. cell_if row j (vector_table v lid j)) (count_from 0 columns)

-- The cells of the first rows.
abbrev pub rows_of : {S : Type 0} → VectorState S → ℕ → List (Cell S)
rows_of v rows = flat_map (λ l. row_of v l (slice_index_or v.map l 0) v.columns) (count_from 0 rows)

-- Whether some number of the first columns of a row is over.
abbrev pub is_row_over : {S : Type 0} → Conversions S → VectorState S → ℕ → ℕ → Bool
is_row_over F v lid columns = list_any (λ j. is_over_there F (vector_table v lid j)) (count_from 0 columns)
