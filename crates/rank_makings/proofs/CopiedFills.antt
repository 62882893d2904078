-- A matrix once more, as one times it and no places.
use Rattle.std.proofs.Common.{◌≡◌, ℕ, List, [], map, Option, None, Some, refl, ap, ◌∙◌}
use Rattle.scalar_laws.specs.Semiring.{Semiring, IsSemiring}
use Rattle.tables.specs.Tables.{Table, nowhere}
use Rattle.crs_matrix.specs.Rows.{RowCells, row_table}
use Rattle.matrix_moves.proofs.Empty.{new-matrices-are-empty}
use Rattle.model_defs.specs.Operations.{combination}
use Rattle.std.specs.Option.{option_map}
use Rattle.tables.specs.Sums.{both_or_one}

once : {S : Type 0} (R : Semiring S) → IsSemiring R → (o : Option S) → both_or_one R.plus (option_map (R.times R.one) o) None ≡ o
once R laws None = refl
once R laws (Some v) = ap (λ x. Some x) (laws.times_one v)

pub one-times : {S : Type 0} (R : Semiring S) → IsSemiring R → (t : Table S) → combination R R.one t R.nought nowhere ≡ t
one-times R laws t = λ s i j. once R laws (t i j) s

pub copied : {S : Type 0} (R : Semiring S) → IsSemiring R → (one nought : S) → one ≡ R.one → nought ≡ R.nought → (t : Table S) (list : List ℕ) (empty : RowCells S)
    → empty ≡ record { rows = list; cells = map (λ _. []) list } → combination R one t nought (row_table empty) ≡ t
copied R laws one nought one_is nought_is t list empty empty_is =
    (λ s. combination R (one_is s) t (nought_is s) ((ap row_table empty_is ∙ new-matrices-are-empty list) s)) ∙ one-times R laws t
