-- The rows of vectors, by global index, and the letter of some of them.
use Rattle.std.specs.Prelude.{ℕ, ◌*◌, List, take, drop}
use Rattle.std.specs.List.{flat_map}
use Rattle.std.specs.Option.{option_and_then}
use Rattle.scalar_laws.specs.Conversions.{Conversions}
use Rattle.tables.specs.Tables.{Table, only_rows}
use Rattle.tables.specs.Indices.{stands}
use Rattle.map_core.specs.Layouts.{local_index}
use Rattle.map_core.specs.Classes.{indices_at}
use Rattle.letter_codec.specs.declared.kind.Kind.TheVariants.{Nums}
use Rattle.letter_codec.specs.Letters.{letter_bytes, number_bytes}
use Rattle.distributor.specs.Arrivals.{numbers_in}
use Rattle.multivector.specs.Vectors.{VectorState, vector_table}

-- The numbers of a vector by global index and column.
abbrev pub by_index : {S : Type 0} → VectorState S → Table S
by_index v g j = option_and_then (λ l. vector_table v l j) (local_index v.map g)

-- The rows of a vector at these global indices, and no others.
abbrev pub rows_of : {S : Type 0} → VectorState S → List ℕ → Table S
rows_of v gids = only_rows (λ g. stands g gids) (by_index v)

-- The numbers of the row at a local index.
abbrev pub row_numbers : {S : Type 0} → VectorState S → ℕ → List S
row_numbers v l = take v.columns (drop (l * v.columns) v.values)

-- The letter of the rows at these local indices: their global indices, and behind them the numbers row after row.
abbrev pub vector_letter : {S : Type 0} → Conversions S → VectorState S → List ℕ → List ℕ
vector_letter F v froms = letter_bytes Nums (indices_at v.map froms) (number_bytes F (flat_map (row_numbers v) froms))

-- The rows of a letter with these bytes of numbers that come for positions of a vector: row k has the global index of position
-- k.
abbrev pub letter_vector : {S : Type 0} → Conversions S → VectorState S → List ℕ → List ℕ → VectorState S
letter_vector F v tos numbers = record { map = indices_at v.map tos; columns = v.columns; values = numbers_in F numbers }
