-- A matrix without places.
use Rattle.std.proofs.Common.{◌≡◌, ℕ, zero, suc, List, [], ◌∷◌, map, get_or, Option, Some, None, refl}
use Rattle.map_core.specs.Layouts.{local_index}
use Rattle.crs_matrix.specs.Rows.{number_at, number_in}
use Rattle.matrix_moves.specs.Laws.{NewMatricesAreEmpty}

empty-row : {S : Type 0} (rows : List ℕ) (l j : ℕ) → number_at {S = S} (get_or (map (λ _. []) rows) l []) j ≡ None
empty-row [] l j = refl
empty-row (x ∷ xs) zero j = refl
empty-row (x ∷ xs) (suc l) j = empty-row xs l j

pub new-matrices-are-empty : {S : Type 0} → NewMatricesAreEmpty S
new-matrices-are-empty {S} rows = λ s g j. at j (local_index rows g) s
  where
    at : (j : ℕ) (o : Option ℕ) → number_in {S = S} (record { rows = rows; cells = map (λ _. []) rows }) o j ≡ None
    at j None = refl
    at j (Some l) = empty-row rows l j
