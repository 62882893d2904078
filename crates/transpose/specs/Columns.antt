-- A column that is added to a table.
use Rattle.std.specs.Prelude.{ℕ, ◌==◌, if◌then◌else◌, Option}
use Rattle.scalar_laws.specs.Semiring.{Semiring}
use Rattle.tables.specs.Sums.{both_or_one}
use Rattle.tables.specs.Tables.{Table}

-- The sum of two tables in column `col` alone: the numbers of a column are added to those that the table has there.
abbrev pub with_column : {S : Type 0} → Semiring S → Table S → ℕ → (ℕ → Option S) → Table S
with_column R t col column i j = if col == j then both_or_one R.plus (t i j) (column i) else t i j
