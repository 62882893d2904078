-- The cells of a matrix, listed row after row.
use Rattle.std.proofs.Common.{◌≡◌, ℕ, zero, suc, ◌+◌, ◌<◌, ◌≤◌, Bool, true, false, ◌&&◌, cond, ltb, eqb, List, [], ◌∷◌, ◌++◌, length, get_or, take, Option, None, Some, inl, inr, refl, sym, ap, ◌∙◌, arith}
use Rattle.std.specs.Prelude.{slice_get}
use Rattle.std.specs.Option.{option_and_then}
use Rattle.std.proofs.lemmas.Bool.{cases_Bool, cases_eq, cases_lt, eqb-true, eq-eqb, ne_eqb, lt-ltb, le-ltb}
use Rattle.std.proofs.lemmas.List.{map-append, take_more}
use Rattle.std.proofs.lemmas.List.FromFn.{length-map-range_with_len}
use Rattle.std.proofs.lemmas.Option.{get_or_from_slice_get, slice_get-get_or, slice_get_within, same_Some}
use Rattle.scalar_laws.specs.Semiring.{Semiring, IsSemiring}
use Rattle.tables.specs.Indices.{AreDistinct}
use Rattle.tables.specs.Sums.{both_or_one}
use Rattle.tables.specs.Tables.{Table, table_of}
use Rattle.tables.proofs.Tables.{table_of-append}
use Rattle.distributor.specs.Entries.{entry_at}
use Rattle.map_core.specs.Layouts.{local_index}
use Rattle.map_core.proofs.Places.{global_index-from, local_index-from}
use Rattle.crs_graph.specs.Ascending.{IsAbove, IsAscending}
use Rattle.crs_graph.proofs.Ascending.{ascending_tail}
use Rattle.crs_matrix.specs.ByRow.{by_row, crs_cells}
use Rattle.crs_matrix.specs.Matrices.{Crs}
use Rattle.crs_matrix.specs.Rows.{columns_in, entries_of, local_table, number_at, number_in, row_entries, row_table, RowCells, IsRowCells}
use Rattle.crs_matrix.proofs.Clauses.{entry-of}
use Rattle.spmv.proofs.Rows.{join_none}
use Rattle.rank_values.proofs.CellLists.{count-push}
use Rattle.rank_matrices.specs.Rows.{first_rows, local_row, row_cells}

module _ {S : Type 0} where
  -- one more cell of a row
  pub row-more : (g : ℕ) (cells : List (ℕ × S)) (at : ℕ) (c : ℕ × S) → slice_get cells at ≡ Some c
      → row_cells g (take at cells) ++ record { row = g; col = c.0; value = c.1 } ∷ [] ≡ row_cells g (take (at + 1) cells)
  row-more g cells at c is =
      sym (ap (row_cells g) (take_more cells at c (slice_get_within cells at c is) ∙ ap (λ d. take at cells ++ d ∷ []) (get_or_from_slice_get cells at c c is))
      ∙ map-append (λ d. record { row = g; col = d.0; value = d.1 }) (take at cells) (c ∷ []))

  -- the entries of a matrix are its rows
  pub each-row : (m : Crs S) → length (by_row m).cells ≡ length m.graph.rows
  each-row m = length-map-range_with_len (crs_cells m) 0 (length m.graph.rows)

  entries-count : (rows : List ℕ) (cells : List (List (ℕ × S))) → length cells ≡ length rows → length (entries_of rows cells) ≡ length rows
  entries-count [] cells e = refl
  entries-count (g ∷ gs) [] e = absurd (omega arith)
  entries-count (g ∷ gs) (c ∷ cs) e = ap suc (entries-count gs cs (omega arith))

  pub entry-known : (m : Crs S) (lid : ℕ) → lid < length m.graph.rows → lid < length (row_entries (by_row m))
  entry-known m lid low = let count = entries-count m.graph.rows (by_row m).cells (each-row m) in omega arith

  pub entry-is : (m : Crs S) (lid : ℕ) → lid < length m.graph.rows
      → entry_at (row_entries (by_row m)) lid ≡ record { gid = get_or m.graph.rows lid 0; cells = get_or (by_row m).cells lid [] }
  entry-is m lid low = entry-of m.graph.rows (by_row m).cells lid (each-row m) low

  -- no number stands below columns that are above
  number-below : (c : ℕ) (cells : List (ℕ × S)) (j : ℕ) → IsAbove c (columns_in cells) → j ≤ c → number_at cells j ≡ None
  number-below c [] j up le = refl
  number-below c (d ∷ ds) j up le =
      let low = up.0 in
      ap (λ b. cond b (Some d.1) (number_at ds j)) (ne_eqb d.0 j (λ e. absurd (omega arith)))
      ∙ number-below d.0 ds j up.1 (omega arith)

module _ {S : Type 0} {R : Semiring S} (L : IsSemiring R) where
  -- the cells of one row
  row-table : (g : ℕ) (cells : List (ℕ × S)) (i j : ℕ) → IsAscending (columns_in cells) → table_of R (row_cells g cells) i j ≡ cond (eqb g i) (number_at cells j) None
  row-table g [] i j up = none (eqb g i)
    where
      none : (b : Bool) → (let nothing : Option S = None in nothing ≡ cond b None None)
      none true = refl
      none false = refl
  row-table g (c ∷ cs) i j up =
      ap (both_or_one R.plus (cond (eqb g i && eqb c.0 j) (Some c.1) None)) (row-table g cs i j (ascending_tail c.0 (columns_in cs) up))
      ∙ go (eqb g i) (eqb c.0 j) refl
    where
      go : (a b : Bool) → eqb c.0 j ≡ b → both_or_one R.plus (cond (a && b) (Some c.1) None) (cond a (number_at cs j) None) ≡ cond a (cond b (Some c.1) (number_at cs j)) None
      go false b e = refl
      go true false e = refl
      go true true e = let same = eqb-true c.0 j e in ap (both_or_one R.plus (Some c.1)) (number-below c.0 cs j up (omega arith))

  -- the numbers of the first rows, by global index
  abbrev known_rows : RowCells S → ℕ → Table S
  known_rows a n i j = option_and_then (λ l. cond (ltb l n) (local_table a l j) None) (local_index a.rows i)

  rows-are : (a : RowCells S) (n : ℕ) → IsRowCells a → AreDistinct a.rows → n ≤ length a.rows → (i j : ℕ) → table_of R (first_rows a n) i j ≡ known_rows a n i j
  rows-are a zero kept distinct low i j = go (local_index a.rows i)
    where
      go : (o : Option ℕ) → (let none : Option S = None in none ≡ option_and_then (λ l. cond (ltb l 0) (local_table a l j) None) o)
      go None = refl
      go (Some l) = ap (λ b. cond b (local_table a l j) None) (sym (le-ltb l 0 (omega arith)))
  rows-are a (suc n) kept distinct low i j =
      ap (λ m. table_of R (first_rows a m) i j) next
      ∙ ap (λ cs. table_of R cs i j) (count-push (local_row a) n)
      ∙ table_of-append L (first_rows a n) (local_row a n) i j
      ∙ (λ t. both_or_one R.plus (rows-are a n kept distinct (omega arith) i j t) (row-table g (get_or a.cells n []) i j (kept.ascend n) t))
      ∙ at (local_index a.rows i) refl
    where
      g : ℕ
      g = get_or a.rows n 0

      next : suc n ≡ n + 1
      next = omega arith

      here : local_index a.rows g ≡ Some n
      here = local_index-from a.rows g n distinct (slice_get-get_or a.rows n 0 low)

      past : (l : ℕ) → n ≤ l → (l ≡ n → ⊥) → suc n ≤ l
      past l h apart = elim (cases_lt n l) [ inl x ↦ omega arith | inr y ↦ absurd (apart (omega arith)) ]

      still : (l : ℕ) → (l ≡ n → ⊥) → ltb l n ≡ ltb l (suc n)
      still l apart = elim (cases_lt l n) [
        | inl lower ↦ lt-ltb l n lower ∙ sym (lt-ltb l (suc n) (omega arith))
        | inr high ↦ le-ltb l n high ∙ sym (le-ltb l (suc n) (past l high apart))
      ]

      at : (o : Option ℕ) → local_index a.rows i ≡ o
          → both_or_one R.plus (option_and_then (λ l. cond (ltb l n) (local_table a l j) None) (local_index a.rows i)) (cond (eqb g i) (local_table a n j) None)
          ≡ option_and_then (λ l. cond (ltb l (suc n)) (local_table a l j) None) (local_index a.rows i)
      at None e =
          (λ t. both_or_one R.plus (option_and_then (λ l. cond (ltb l n) (local_table a l j) None) (e t)) (cond (other t) (local_table a n j) None))
          ∙ sym (ap (option_and_then (λ l. cond (ltb l (suc n)) (local_table a l j) None)) e)
        where
          other : eqb g i ≡ false
          other = elim (cases_Bool (eqb g i)) [
            | inl on ↦ let bad : local_index a.rows i ≡ Some n = ap (local_index a.rows) (sym (eqb-true g i on)) ∙ here in absurd (cc)
            | inr off ↦ off
          ]
      at (Some l) e = elim (cases_eq l n) [
        | inl same ↦
            let one : g ≡ i = same_Some g i (sym (global_index-from a.rows g n here) ∙ global_index-from a.rows i n (e ∙ ap (λ m. Some m) same)) in
            let p : ltb l n ≡ false = le-ltb l n (omega (arith, same)) in
            let q : eqb g i ≡ true = eq-eqb g i one in
            let r : ltb l (suc n) ≡ true = lt-ltb l (suc n) (omega (arith, same)) in
            ap (λ o. both_or_one R.plus (option_and_then (λ l. cond (ltb l n) (local_table a l j) None) o) (cond (eqb g i) (local_table a n j) None)) e
            ∙ (λ t. both_or_one R.plus (cond (p t) (local_table a l j) None) (cond (q t) (local_table a n j) None))
            ∙ sym (ap (λ m. local_table a m j) same) ∙ sym (ap (λ x. cond x (local_table a l j) None) r)
            ∙ sym (ap (option_and_then (λ l. cond (ltb l (suc n)) (local_table a l j) None)) e)
        | inr apart ↦
            let q : eqb g i ≡ false = elim (cases_Bool (eqb g i)) [
              | inl on ↦ absurd (apart (same_Some l n (sym e ∙ ap (local_index a.rows) (sym (eqb-true g i on)) ∙ here)))
              | inr off ↦ off
            ] in
            ap (λ o. both_or_one R.plus (option_and_then (λ l. cond (ltb l n) (local_table a l j) None) o) (cond (eqb g i) (local_table a n j) None)) e
            ∙ ap (λ x. both_or_one R.plus (cond (ltb l n) (local_table a l j) None) (cond x (local_table a n j) None)) q
            ∙ join_none L (cond (ltb l n) (local_table a l j) None)
            ∙ ap (λ x. cond x (local_table a l j) None) (still l apart)
            ∙ sym (ap (option_and_then (λ l. cond (ltb l (suc n)) (local_table a l j) None)) e)
      ]

  -- all rows
  pub all-rows : (a : RowCells S) → IsRowCells a → AreDistinct a.rows → table_of R (first_rows a (length a.rows)) ≡ row_table a
  all-rows a kept distinct = λ t i j. (rows-are a (length a.rows) kept distinct (omega arith) i j ∙ whole i j (local_index a.rows i) refl) t
    where
      whole : (i j : ℕ) (o : Option ℕ) → local_index a.rows i ≡ o → known_rows a (length a.rows) i j ≡ row_table a i j
      whole i j None e =
          ap (option_and_then (λ l. cond (ltb l (length a.rows)) (local_table a l j) None)) e
          ∙ sym (ap (λ o. number_in a o j) e)
      whole i j (Some l) e =
          let low : l < length a.rows = slice_get_within a.rows l i (global_index-from a.rows i l e) in
          ap (option_and_then (λ k. cond (ltb k (length a.rows)) (local_table a k j) None)) e
          ∙ ap (λ b. cond b (local_table a l j) None) (lt-ltb l (length a.rows) low)
          ∙ sym (ap (λ o. number_in a o j) e)
