-- What a matrix adds to a vector.
use Rattle.std.specs.Prelude.{ℕ, List, Option}
use Rattle.scalar_laws.specs.Semiring.{Semiring}
use Rattle.tables.specs.Sums.{total_below, if_there, both_or_one}
use Rattle.tables.specs.Tables.{Table}
use Rattle.map_core.specs.Layouts.{local_index}
use Rattle.crs_matrix.specs.Matrices.{number_at_place}
use Rattle.model_defs.specs.Operations.{times_there}

-- the table with what is added to it
abbrev pub grown : {S : Type 0} → Semiring S → Table S → Table S → Table S
grown R t u i k = both_or_one R.plus (t i k) (u i k)

-- column k of the product of one row with a vector of n entries; the row has these columns, with these numbers
abbrev pub row_product : {S : Type 0} → Semiring S → ℕ → List ℕ → List S → Table S → ℕ → Option S
row_product R n columns numbers x k = total_below (if_there R.plus) n (λ c. times_there R (number_at_place numbers (local_index columns c)) (x c k))

-- the transposed table
abbrev pub turned : {S : Type 0} → Table S → Table S
turned t i j = t j i
