-- What a multivector is: for each index of a map a row of numbers.
use Rattle.std.specs.Prelude.{◌≡◌, ℕ, ◌+◌, ◌*◌, Bool, ◌&&◌, nat_lt, if◌then◌else◌, slice_get, List, map, length, Option, None, Some}
use Rattle.std.specs.List.{zip}
use Rattle.std.specs.Option.{option_map}
use Rattle.scalar_laws.specs.Semiring.{Semiring}
use Rattle.tables.specs.Sums.{both_or_one}
use Rattle.tables.specs.Tables.{Table}
use Rattle.distributor.specs.Entries.{Entry, numbered}

-- The indices of its map, how many columns it has, and its numbers, row after row.
pub record VectorState (S : Type 0) : Type 0 where
  pub map : List ℕ
  pub columns : ℕ
  pub values : List S

-- Whether it has a cell at this local index and column.
abbrev pub has_cell : {S : Type 0} → VectorState S → ℕ → ℕ → Bool
has_cell v i j = nat_lt i (length v.map) && nat_lt j v.columns

-- Its numbers by local index and column.
abbrev pub vector_table : {S : Type 0} → VectorState S → Table S
vector_table v i j = if has_cell v i j then slice_get v.values (i * v.columns + j) else None

-- Its rows as entries.
abbrev pub vector_entries : {S : Type 0} → VectorState S → List (Entry S)
vector_entries v = numbered v.columns v.map v.values

-- Each row has so many numbers.
abbrev pub IsVector : {S : Type 0} → VectorState S → Type 0
IsVector v = length v.values ≡ length v.map * v.columns

-- The same map and as many columns.
abbrev pub HasSameShape : {S : Type 0} → VectorState S → VectorState S → Type 0
HasSameShape a b = (b.map ≡ a.map) × (b.columns ≡ a.columns)

-- alpha x + beta y, number by number.
abbrev pub combined_values : {S : Type 0} → Semiring S → S → List S → S → List S → List S
combined_values R alpha xs beta ys = map (λ pair. R.plus (R.times alpha pair.0) (R.times beta pair.1)) (zip xs ys)

-- alpha x + beta y, cell by cell.
abbrev pub combination : {S : Type 0} → Semiring S → S → Table S → S → Table S → Table S
combination R alpha x beta y i j = both_or_one R.plus (option_map (R.times alpha) (x i j)) (option_map (R.times beta) (y i j))
