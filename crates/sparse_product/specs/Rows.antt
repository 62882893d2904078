-- Rows of a product and of a sum.
use Rattle.std.specs.Prelude.{ℕ, ◌<◌, ◌==◌, if◌then◌else◌, List, [], ◌∷◌, map, slice_index, Option, None, Some}
use Rattle.scalar_laws.specs.Semiring.{Semiring}
use Rattle.tables.specs.Sums.{total, if_there, both_or_one}
use Rattle.tables.specs.Tables.{Table}
use Rattle.model_defs.specs.Operations.{times_there}

-- The sum of two tables in row `lid` alone: the numbers of a row are added to those that the table has there.
abbrev pub with_row : {S : Type 0} → Semiring S → Table S → ℕ → (ℕ → Option S) → Table S
with_row R t lid row l j = if lid == l then both_or_one R.plus (t l j) (row j) else t l j

-- The number at a column of a row times a factor, where the row is given by cells; a column may stand there more than once.
abbrev pub scaled_at : {S : Type 0} → Semiring S → S → List (ℕ × S) → ℕ → Option S
scaled_at R factor cells j = total (if_there R.plus) (λ c. if c.0 == j then Some (R.times factor c.1) else None) cells

-- A row of a product: for the cells of a row of the first matrix, each with the local index k of a row of the second,
-- the sum of the products with these rows.
abbrev pub product_row : {S : Type 0} → Semiring S → List (ℕ × S) → Table S → ℕ → Option S
product_row R cells b j = total (if_there R.plus) (λ c. times_there R (Some c.1) (b c.0 j)) cells

-- The cells that pairs of a place in a list of columns and a number stand for.
abbrev pub linked_cells : {S : Type 0} → List ℕ → List (ℕ × S) → List (ℕ × S)
linked_cells columns links = map (λ l. (slice_index columns l.0, l.1)) links

-- Their places are below n.
abbrev pub AreLinks : {S : Type 0} → ℕ → List (ℕ × S) → Type 0
AreLinks n [] = Unit {0}
AreLinks n (l ∷ ls) = (l.0 < n) × AreLinks n ls
