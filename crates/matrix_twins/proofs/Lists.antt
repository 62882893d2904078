-- Lists of cells, one cell after the other.
use Rattle.std.proofs.Common.{◌≡◌, ℕ, zero, suc, ◌+◌, ◌<◌, ◌==◌, cond, List, [], ◌∷◌, ◌++◌, length, map, get_or, take, Option, Some, None, refl, sym, ap, ◌∙◌}
use Rattle.std.proofs.lemmas.List.{take_more}
use Rattle.std.proofs.Math.Bool.{and_comm}
use Rattle.scalar_laws.specs.Semiring.{Semiring, IsSemiring}
use Rattle.tables.specs.declared.Cell.{Cell}
use Rattle.tables.specs.Sums.{if_there, both_or_one}
use Rattle.tables.specs.Tables.{part_at, table_of, with_place}
use Rattle.tables.proofs.Sums.{places-IsJoining, total-push}
use Rattle.tables.proofs.Tables.{table_of-push}
use Rattle.map_core.specs.Layouts.{local_index}
use Rattle.crs_matrix.specs.Rows.{number_at, number_in, row_table, RowCells}
use Rattle.model_defs.specs.Operations.{transpose}
use Rattle.matrix_twins.specs.Cells.{turned_over}

module _ {S : Type 0} {R : Semiring S} (L : IsSemiring R) where
  -- one more cell of a list
  pub table-more : (cells : List (Cell S)) (at : ℕ) (c : Cell S) (i j : ℕ) → at < length cells → c ≡ get_or cells at c
      → table_of R (take (at + 1) cells) i j ≡ both_or_one R.plus (table_of R (take at cells) i j) (part_at i j c)
  table-more cells at c i j low is =
      ap (λ cs. table_of R cs i j) (take_more cells at c low)
      ∙ total-push (places-IsJoining L) (part_at i j) (take at cells) (get_or cells at c)
      ∙ ap (λ d. both_or_one R.plus (table_of R (take at cells) i j) (part_at i j d)) (sym is)

  -- one more cell, where it is inserted
  pub table-insert : (cells : List (Cell S)) (at : ℕ) (c : Cell S) → at < length cells → c ≡ get_or cells at c
      → table_of R (take (at + 1) cells) ≡ with_place (table_of R (take at cells)) c.row c.col (both_or_one R.plus (table_of R (take at cells) c.row c.col) (Some c.value))
  table-insert cells at c low is =
      ap (table_of R) (take_more cells at c low ∙ ap (λ d. take at cells ++ d ∷ []) (sym is)) ∙ table_of-push L (take at cells) c

  -- one more cell, turned over
  pub table-turned : (cells done : List (Cell S)) (at : ℕ) (c : Cell S) → at < length cells → c ≡ get_or cells at c
      → table_of R done ≡ transpose (table_of R (take at cells)) → table_of R (done ++ turned_over c ∷ []) ≡ transpose (table_of R (take (at + 1) cells))
  table-turned cells done at c low is before = λ t i j.
      (total-push (places-IsJoining L) (part_at i j) done (turned_over c)
      ∙ ap (λ b. both_or_one R.plus (table_of R done i j) (cond b (Some c.value) None)) (and_comm (c.col == i) (c.row == j))
      ∙ ap (λ o. both_or_one R.plus o (part_at j i c)) (ap (λ m. m i j) before)
      ∙ sym (table-more cells at c j i low is)) t

-- rows without cells have no number
pub table-empty : {S : Type 0} (rows : List ℕ) (made : RowCells S) (R : Semiring S) → made ≡ record { rows = rows; cells = map (λ _. []) rows } → row_table made ≡ table_of R []
table-empty {S} rows made R is = λ t i j. (ap (λ m. row_table m i j) is ∙ none j (local_index rows i)) t
  where
    nothing : (xs : List ℕ) (l j : ℕ) → number_at {S = S} (get_or (map (λ _. []) xs) l []) j ≡ None
    nothing [] l j = refl
    nothing (x ∷ xs) zero j = refl
    nothing (x ∷ xs) (suc l) j = nothing xs l j

    none : (j : ℕ) (l : Option ℕ) → number_in {S = S} (record { rows = rows; cells = map (λ _. []) rows }) l j ≡ None
    none j None = refl
    none j (Some l) = nothing rows l j
