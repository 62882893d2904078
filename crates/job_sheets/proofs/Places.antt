-- Cells within a size, and cells whose row and column are exchanged.
use Rattle.std.proofs.Common.{◌≡◌, ℕ, zero, suc, ◌≤◌, ◌⊎◌, inl, inr, Bool, true, false, cond, eqb, ◌&&◌, List, [], ◌∷◌, ◌++◌, filter, map, Option, None, Some, refl, sym, ap, ◌∙◌, append-nil, arith}
use Rattle.std.specs.List.{flat_map}
use Rattle.std.specs.Prelude.{nat_lt}
use Rattle.std.proofs.lemmas.List.{map-append}
use Rattle.scalar_laws.specs.Semiring.{Semiring}
use Rattle.tables.specs.declared.Cell.{Cell}
use Rattle.tables.specs.Indices.{count_from}
use Rattle.tables.specs.Sums.{both_or_one}
use Rattle.tables.specs.Tables.{Table, names, table_of, found, only_within, cell_if, row_cells, all_cells, cells_of, AreInOrder}
use Rattle.tables.proofs.Filters.{AreInOrder-filter}
use Rattle.tables.proofs.Tables.{names-place}
use Rattle.tables.proofs.Within.{cells_of-found}
use Rattle.job_sheets.specs.Cells.{is_within, listed, placed, turned}

and_comm : (a b : Bool) → (a && b) ≡ (b && a)
and_comm true true = refl
and_comm true false = refl
and_comm false true = refl
and_comm false false = refl

module _ {S : Type 0} where
  none : (b : Bool) → let absent : Option S = None in cond b absent None ≡ absent
  none true = refl
  none false = refl

  -- a look-up among the cells whose place passes a test
  found-chosen : (p : ℕ → ℕ → Bool) (cs : List (Cell S)) (i j : ℕ) → found (filter (λ c. p c.row c.col) cs) i j ≡ cond (p i j) (found cs i j) None
  found-chosen p [] i j = sym (none (p i j))
  found-chosen p (c ∷ cs) i j = at (p c.row c.col) refl (names i j c) refl (found-chosen p cs i j)
    where
      here : names i j c ≡ true → p i j ≡ p c.row c.col
      here f = let e = names-place i j c f in λ t. p (sym e.0 t) (sym e.1 t)

      at : (b : Bool) → p c.row c.col ≡ b → (d : Bool) → names i j c ≡ d → found (filter (λ c. p c.row c.col) cs) i j ≡ cond (p i j) (found cs i j) None
          → found (cond b (c ∷ filter (λ c. p c.row c.col) cs) (filter (λ c. p c.row c.col) cs)) i j ≡ cond (p i j) (cond d (Some c.value) (found cs i j)) None
      at true e true f more =
          ap (λ d. cond d (Some c.value) (found (filter (λ c. p c.row c.col) cs) i j)) f
          ∙ sym (ap (λ b. cond b (Some c.value) None) (here f ∙ e))
      at true e false f more = ap (λ d. cond d (Some c.value) (found (filter (λ c. p c.row c.col) cs) i j)) f ∙ more
      at false e true f more =
          let out : p i j ≡ false = here f ∙ e in
          more ∙ ap (λ b. cond b (found cs i j) None) out ∙ sym (ap (λ b. cond b (Some c.value) None) out)
      at false e false f more = more

  found-within_size : (rows cols : ℕ) (cs : List (Cell S)) → found (filter (is_within rows cols) cs) ≡ only_within rows cols (found cs)
  found-within_size rows cols cs = λ t i j. found-chosen (λ i j. nat_lt i rows && nat_lt j cols) cs i j t

  -- cells in order, within a size, are those of their table
  pub within-cells_of : (rows cols : ℕ) (cs : List (Cell S)) → AreInOrder cs → filter (is_within rows cols) cs ≡ cells_of rows cols (found cs)
  within-cells_of rows cols cs o = cells_of-found rows cols (found cs) (filter (is_within rows cols) cs) (AreInOrder-filter (is_within rows cols) cs o) (found-within_size rows cols cs)

  -- the table with rows and columns exchanged
  abbrev pub flipped : Table S → Table S
  flipped t i j = t j i

  pub placed-turned : (cs : List (Cell S)) → map (placed true) cs ≡ map turned cs
  placed-turned [] = refl
  placed-turned (c ∷ cs) = ap (λ ds. turned c ∷ ds) (placed-turned cs)

  pub placed-same : (cs : List (Cell S)) → map (placed false) cs ≡ cs
  placed-same [] = refl
  placed-same (c ∷ cs) = ap (λ ds. c ∷ ds) (placed-same cs)

  pub within-turned : (rows cols : ℕ) (cs : List (Cell S)) → filter (is_within rows cols) (map turned cs) ≡ map turned (filter (is_within cols rows) cs)
  within-turned rows cols [] = refl
  within-turned rows cols (c ∷ cs) = go (nat_lt c.col rows) (nat_lt c.row cols) (within-turned rows cols cs)
    where
      go : (a b : Bool) → filter (is_within rows cols) (map turned cs) ≡ map turned (filter (is_within cols rows) cs)
          → cond (a && b) (turned c ∷ filter (is_within rows cols) (map turned cs)) (filter (is_within rows cols) (map turned cs))
          ≡ map turned (cond (b && a) (c ∷ filter (is_within cols rows) cs) (filter (is_within cols rows) cs))
      go true true rest = ap (λ ds. turned c ∷ ds) rest
      go true false rest = rest
      go false true rest = rest
      go false false rest = rest

  -- a row of the exchanged table is a column
  turned-row : (t : Table S) (j : ℕ) (is : List ℕ) → map turned (row_cells (flipped t) j is) ≡ all_cells t is (j ∷ [])
  turned-row t j [] = refl
  turned-row t j (i ∷ is) = one (t i j) (turned-row t j is)
    where
      one : (v : Option S) → map turned (row_cells (flipped t) j is) ≡ all_cells t is (j ∷ [])
          → map turned (cell_if j i v ++ row_cells (flipped t) j is) ≡ (cell_if i j v ++ []) ++ all_cells t is (j ∷ [])
      one None rest = rest
      one (Some v) rest = ap (λ ds. record { row = i; col = j; value = v } ∷ ds) rest

  turned-all : (t : Table S) (js is : List ℕ) → map turned (all_cells (flipped t) js is) ≡ flat_map (λ j. all_cells t is (j ∷ [])) js
  turned-all t [] is = refl
  turned-all t (j ∷ js) is =
      map-append turned (row_cells (flipped t) j is) (all_cells (flipped t) js is)
      ∙ (λ s. turned-row t j is s ++ turned-all t js is s)

  -- the exchanged cells of the exchanged table are the cells column by column
  pub turned-cells_of : (rows cols : ℕ) (t : Table S) → map turned (cells_of cols rows (flipped t)) ≡ listed true rows cols t
  turned-cells_of rows cols t = turned-all t (count_from 0 cols) (count_from 0 rows)

  pub table_of-turned : (R : Semiring S) (cs : List (Cell S)) → table_of R (map turned cs) ≡ flipped (table_of R cs)
  table_of-turned R [] = refl
  table_of-turned R (c ∷ cs) = λ t i j. both_or_one R.plus (cond (and_comm (eqb c.col i) (eqb c.row j) t) (Some c.value) None) (table_of-turned R cs t i j)

  no_columns : (t : Table S) (is : List ℕ) → all_cells t is [] ≡ []
  no_columns t [] = refl
  no_columns t (i ∷ is) = no_columns t is

  -- of one column, both orders are the same
  pub one_column : (rows cols : ℕ) (t : Table S) → cols ≤ 1 → listed true rows cols t ≡ listed false rows cols t
  one_column rows zero t l = sym (no_columns t (count_from 0 rows))
  one_column rows (suc zero) t l = append-nil (all_cells t (count_from 0 rows) (0 ∷ []))
  one_column rows (suc (suc n)) t l = absurd (omega arith)

  pub either_order : (by_column : Bool) (rows cols : ℕ) (t : Table S) → ((by_column ≡ true) × (cols ≤ 1)) ⊎ (by_column ≡ false) → listed false rows cols t ≡ listed by_column rows cols t
  either_order by_column rows cols t (inl p) = sym (one_column rows cols t p.1) ∙ ap (λ b. listed b rows cols t) (sym p.0)
  either_order by_column rows cols t (inr e) = ap (λ b. listed b rows cols t) (sym e)
