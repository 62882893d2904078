-- Cells by row, then column, and the sums of those at one place.
use Rattle.std.specs.Prelude.{◌≡◌, ℕ, Bool, true, not, List, [], ◌∷◌}
use Rattle.std.specs.List.{list_all}
use Rattle.scalar_laws.specs.Semiring.{Semiring}
use Rattle.tables.specs.declared.Cell.{Cell}
use Rattle.tables.specs.Tables.{table_of, stands_before, AreInOrder}

-- No cell of the list stands after c, though some may be at its place.
abbrev pub none_after : {S : Type 0} → Cell S → List (Cell S) → Bool
none_after c cells = list_all (λ d. not (stands_before c d)) cells

-- The cells ascend by row and then column, and those of one place stand together.
abbrev pub AreSorted : {S : Type 0} → List (Cell S) → Type 0
AreSorted [] = Unit {0}
AreSorted (c ∷ cs) = (list_all (λ d. not (stands_before d c)) cs ≡ true) × AreSorted cs

-- Every cell's place passes the test.
abbrev pub all_places : {S : Type 0} → (ℕ → ℕ → Bool) → List (Cell S) → Bool
all_places test cells = list_all (λ c. test c.row c.col) cells

-- The sums of cells: in order, with the same matrix, and at no other place.
pub record AreSums {S : Type 0} (R : Semiring S) (cells sums : List (Cell S)) : Type 0 where
  pub in_order : AreInOrder sums
  pub matrix : table_of R sums ≡ table_of R cells
  pub places : (test : ℕ → ℕ → Bool) → all_places test cells ≡ true → all_places test sums ≡ true
