-- Lines, the rows that they name, and their table.
use Rattle.std.proofs.Common.{◌≡◌, ℕ, zero, suc, ◌<◌, Bool, true, false, ◌&&◌, ◌||◌, cond, eqb, List, [], ◌∷◌, ◌++◌, length, get_or, map, Option, None, Some, inl, inr, refl, sym, ap, ◌∙◌, arith}
use Rattle.std.specs.Prelude.{pos, is_some}
use Rattle.std.specs.List.{All}
use Rattle.std.specs.List.Sorted.{IsPermutation}
use Rattle.std.proofs.lemmas.Bool.{cases_Bool, eq-eqb, eqb-true}
use Rattle.std.proofs.lemmas.List.Elements.{All-from_get_or}
use Rattle.scalar_laws.specs.Semiring.{Semiring, IsSemiring}
use Rattle.scalar_laws.specs.Conversions.{Conversions}
use Rattle.tables.specs.Indices.{stands}
use Rattle.tables.specs.Sums.{total, if_there, both_or_one}
use Rattle.tables.specs.Tables.{Table, part_at, with_place}
use Rattle.tables.proofs.Permutations.{total-IsPermutation}
use Rattle.tables.proofs.Sums.{places-IsJoining}
use Rattle.map_core.specs.Layouts.{local_index}
use Rattle.mm_text.specs.declared.file_data.Line.{Line}
use Rattle.model_defs.specs.FileMatrix.{number_cell, number_of, own_cell}
use Rattle.crs_graph.proofs.AllColumns.{stands-ascending}
use Rattle.crs_matrix.specs.Rows.{number_at, number_in, row_table}
use Rattle.rank_values.specs.Vectors.{lines_table}
use Rattle.rank_values.proofs.LineTables.{lines-push}
use Rattle.rank_matrices.specs.Matrices.{named_rows}

-- ---- rows

-- a row that some line names
pub record IsNamed (lines : List Line) (g : ℕ) : Type 0 where
  pub at : ℕ
  pub low : at < length lines
  pub row : (d : Line) → (get_or lines at d).row ≡ g

pub named : (lines : List Line) (g : ℕ) → stands g (map (λ l. l.row) lines) ≡ true → IsNamed lines g
named [] g h = absurd (cc)
named (l ∷ ls) g h = elim (cases_Bool (eqb l.row g)) [
  | inl on ↦ record { at = 0; low = omega arith; row = λ d. eqb-true l.row g on }
  | inr off ↦
      let rest = named ls g (sym (ap (λ b. b || stands g (map (λ l. l.row) ls)) off) ∙ h) in
      record { at = suc rest.at; low = (let low = rest.low in omega arith); row = rest.row }
]

or_true : (b : Bool) → (b || true) ≡ true
or_true true = refl
or_true false = refl

row-stands : (lines : List Line) (at : ℕ) (d : Line) → at < length lines → stands (get_or lines at d).row (map (λ l. l.row) lines) ≡ true
row-stands [] at d low = absurd (omega arith)
row-stands (l ∷ ls) zero d low = ap (λ b. b || stands l.row (map (λ l. l.row) ls)) (eq-eqb l.row l.row refl)
row-stands (l ∷ ls) (suc at) d low = ap (λ b. eqb l.row (get_or ls at d).row || b) (row-stands ls at d (omega arith)) ∙ or_true (eqb l.row (get_or ls at d).row)

no_line : Line
no_line = record { row = 0; col = 0; value = pos 0 }

-- each line's row is named
pub all-named : (lines : List Line) → All (λ l. stands l.row (named_rows lines) ≡ true) lines
all-named lines =
    All-from_get_or (λ l. stands l.row (named_rows lines) ≡ true) lines no_line
    (λ at low. stands-ascending (map (λ l. l.row) lines) (get_or lines at no_line).row ∙ row-stands lines at no_line low)

-- ---- tables

-- a matrix without places
pub empty-rows : {S : Type 0} (R : Semiring S) (F : Conversions S) (rows : List ℕ) → row_table {S = S} (record { rows = rows; cells = map (λ _. []) rows }) ≡ lines_table R F []
empty-rows {S} R F rows = λ t i j. at i j (local_index rows i) t
  where
    none : (gs : List ℕ) (l j : ℕ) → number_at {S = S} (get_or (map (λ _. []) gs) l []) j ≡ None
    none [] l j = refl
    none (g ∷ gs) zero j = refl
    none (g ∷ gs) (suc l) j = none gs l j

    at : (i j : ℕ) (o : Option ℕ) → number_in {S = S} (record { rows = rows; cells = map (λ _. []) rows }) o j ≡ None
    at i j None = refl
    at i j (Some l) = none rows l j

module _ {S : Type 0} (R : Semiring S) (F : Conversions S) where
  -- a place of the table of lines, as one sum
  table-total : (lines : List Line) (i j : ℕ) → lines_table R F lines i j ≡ total (if_there R.plus) (λ l. part_at i j (number_cell R F (own_cell l))) lines
  table-total [] i j = refl
  table-total (l ∷ ls) i j = ap (both_or_one R.plus (part_at i j (number_cell R F (own_cell l)))) (table-total ls i j)

  -- it does not depend on the order of the lines
  pub table-order : IsSemiring R → (xs ys : List Line) → IsPermutation xs ys → lines_table R F ys ≡ lines_table R F xs
  table-order L xs ys moved = λ t i j. at i j t
    where
      at : (i j : ℕ) → lines_table R F ys i j ≡ lines_table R F xs i j
      at i j =
          table-total ys i j
          ∙ total-IsPermutation (places-IsJoining L) (λ l. part_at i j (number_cell R F (own_cell l))) xs ys moved
          ∙ sym (table-total xs i j)

  -- one more line
  pub line-added : IsSemiring R → (old new : Table S) (lines : List Line) (l : Line) (v : S) → v ≡ number_of R F l.value
      → new ≡ with_place old l.row l.col (both_or_one R.plus (old l.row l.col) (Some v))
      → old ≡ lines_table R F lines → new ≡ lines_table R F (lines ++ l ∷ [])
  line-added L old new lines l v is set e =
      set
      ∙ (λ t. with_place (e t) l.row l.col (both_or_one R.plus (e t l.row l.col) (Some (is t))))
      ∙ sym (lines-push R F L lines l)

  some-first : (a : S) (o : Option S) → is_some (both_or_one R.plus (Some a) o) ≡ true
  some-first a None = refl
  some-first a (Some b) = refl

  some-last : (o p : Option S) → is_some p ≡ true → is_some (both_or_one R.plus o p) ≡ true
  some-last None p e = e
  some-last (Some a) None e = refl
  some-last (Some a) (Some b) e = refl

  -- a place that a line names is there
  pub line-there : (lines : List Line) (at : ℕ) (d : Line) → at < length lines → is_some (lines_table R F lines (get_or lines at d).row (get_or lines at d).col) ≡ true
  line-there [] at d low = absurd (omega arith)
  line-there (l ∷ ls) zero d low =
      (λ t. is_some (both_or_one R.plus (cond (eq-eqb l.row l.row refl t && eq-eqb l.col l.col refl t) (Some (number_of R F l.value)) None) (lines_table R F ls l.row l.col)))
      ∙ some-first (number_of R F l.value) (lines_table R F ls l.row l.col)
  line-there (l ∷ ls) (suc at) d low =
      some-last (part_at (get_or ls at d).row (get_or ls at d).col (number_cell R F (own_cell l))) (lines_table R F ls (get_or ls at d).row (get_or ls at d).col) (line-there ls at d (omega arith))

  -- and its row is named
  pub there-named : (lines : List Line) (g j : ℕ) → is_some (lines_table R F lines g j) ≡ true → stands g (map (λ l. l.row) lines) ≡ true
  there-named [] g j h = absurd (cc)
  there-named (l ∷ ls) g j h = by (eqb l.row g) (there-named ls g j) h
    where
      by : (b : Bool) → (is_some (lines_table R F ls g j) ≡ true → stands g (map (λ l. l.row) ls) ≡ true)
          → is_some (both_or_one R.plus (cond (b && eqb l.col j) (Some (number_of R F l.value)) None) (lines_table R F ls g j)) ≡ true → (b || stands g (map (λ l. l.row) ls)) ≡ true
      by true rest e = refl
      by false rest e = rest e
