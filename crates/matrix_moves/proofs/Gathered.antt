-- A matrix after cells came for its positions, by global index.
use Rattle.std.proofs.Common.{◌≡◌, ℕ, Bool, true, false, cond, ◌&&◌, eqb, List, [], ◌∷◌, ◌++◌, map, length, Option, Some, None, refl, sym, ap, subst, ◌∙◌}
use Rattle.std.proofs.lemmas.Bool.{eqb-true, eqb-false, eq-eqb, ne_eqb}
use Rattle.std.proofs.lemmas.List.{map-append}
use Rattle.std.proofs.lemmas.Option.{slice_get-get_or, get_or_from_slice_get, same_Some}
use Rattle.scalar_laws.specs.Semiring.{Semiring}
use Rattle.tables.specs.declared.Cell.{Cell}
use Rattle.tables.specs.Indices.{AreDistinct}
use Rattle.tables.specs.Tables.{Table, found}
use Rattle.map_core.specs.Classes.{index_at, indices_at}
use Rattle.map_core.specs.Layouts.{local_index}
use Rattle.map_core.proofs.Places.{local_index-from, global_index-from}
use Rattle.combine_modes.specs.declared.mode.Mode.{Mode}
use Rattle.combine_modes.specs.Modes.{after_one}
use Rattle.distributor.specs.Entries.{placed, with_cells}
use Rattle.distributor.specs.Transfers.{IsPartOf}
use Rattle.crs_matrix.specs.Rows.{RowCells, local_table, number_in, row_table}
use Rattle.matrix_moves.specs.Arrivals.{IsPartGathered, after_table}
use Rattle.matrix_moves.proofs.Apart.{AreApart, after-cells, apart-first}
use Rattle.matrix_moves.proofs.Placed.{AreRowsBelow, below-first, put_rows}

module _ {S : Type 0} where
  -- a cell of a position, at the global index of the position
  abbrev pub globally : List ℕ → Cell S → Cell S
  globally rows c = record { row = index_at rows c.row; col = c.col; value = c.value }

  pub put-globally : (rows : List ℕ) (rs : List (List (ℕ × S))) (tos : List ℕ) → map (globally rows) (put_rows rs tos) ≡ put_rows rs (indices_at rows tos)
  put-globally rows [] tos = refl
  put-globally rows (r ∷ rs) [] = refl
  put-globally rows (r ∷ rs) (to ∷ tos) =
      map-append (globally rows) (map (placed to) r) (put_rows rs tos)
      ∙ (λ s. row r s ++ put-globally rows rs tos s)
    where
      row : (cs : List (ℕ × S)) → map (globally rows) (map (placed to) cs) ≡ map (placed (index_at rows to)) cs
      row [] = refl
      row (c ∷ cs) = ap (λ z. record { row = index_at rows to; col = c.0; value = c.1 } ∷ z) (row cs)

  module _ (rows : List ℕ) (distinct : AreDistinct rows) where
    -- what comes for a position is what comes for its index
    found-globally : (cells : List (Cell S)) → AreRowsBelow (length rows) cells → (g l j : ℕ) → local_index rows g ≡ Some l
        → found (map (globally rows) cells) g j ≡ found cells l j
    found-globally [] below g l j here = refl
    found-globally (c ∷ cs) below g l j here =
        λ s. cond (by (eqb c.row l) refl s && eqb c.col j) (Some c.value) (found-globally cs below.1 g l j here s)
      where
        by : (b : Bool) → eqb c.row l ≡ b → eqb (index_at rows c.row) g ≡ eqb c.row l
        by true e =
            let row : c.row ≡ l = eqb-true c.row l e in
            let there : index_at rows c.row ≡ g = ap (index_at rows) row ∙ get_or_from_slice_get rows l g 0 (global_index-from rows g l here) in
            eq-eqb (index_at rows c.row) g there ∙ sym e
        by false e =
            ne_eqb (index_at rows c.row) g (λ there.
            let place : Some c.row ≡ Some l = sym (local_index-from rows g c.row distinct (slice_get-get_or rows (c.row) 0 below.0 ∙ ap Some there)) ∙ here in
            eqb-false c.row l e (same_Some c.row l place))
            ∙ sym e

    found-nowhere : (cells : List (Cell S)) → AreRowsBelow (length rows) cells → (g j : ℕ) → local_index rows g ≡ None
        → found (map (globally rows) cells) g j ≡ None
    found-nowhere [] below g j none = refl
    found-nowhere (c ∷ cs) below g j none =
        ap (λ b. cond (b && eqb c.col j) (Some c.value) (found (map (globally rows) cs) g j))
        (ne_eqb (index_at rows c.row) g (λ there.
        let place : Some c.row ≡ None = sym (local_index-from rows g c.row distinct (slice_get-get_or rows (c.row) 0 below.0 ∙ ap Some there)) ∙ none in
        let bad : ⊥ = cc in bad))
        ∙ found-nowhere cs below.1 g j none

    module _ (R : Semiring S) (mode : Mode) (old new : RowCells S) (same_old : old.rows ≡ rows) (same_new : new.rows ≡ rows) where
      pub gathered : (cells : List (Cell S)) → AreRowsBelow (length rows) cells → AreApart cells
          → local_table new ≡ with_cells R mode false (local_table old) cells
          → row_table new ≡ after_table R mode (row_table old) (found (map (globally rows) cells))
      gathered cells below apart h = λ s g j. at g j (local_index rows g) refl s
        where
          at : (g j : ℕ) (o : Option ℕ) → local_index rows g ≡ o
              → row_table new g j ≡ after_one R mode false (row_table old g j) (found (map (globally rows) cells) g j)
          at g j None p =
              ap (λ xs. number_in new (local_index xs g) j) same_new
              ∙ ap (λ o. number_in new o j) p
              ∙ sym ((λ s. after_one R mode false (number_in old (local_index (same_old s) g) j) (found (map (globally rows) cells) g j))
              ∙ (λ s. after_one R mode false (number_in old (p s) j) (found-nowhere cells below g j p s)))
          at g j (Some l) p =
              ap (λ xs. number_in new (local_index xs g) j) same_new
              ∙ ap (λ o. number_in new o j) p
              ∙ ap (λ (t : Table S). t l j) h
              ∙ after-cells R mode false (local_table old) cells apart l j
              ∙ sym ((λ s. after_one R mode false (number_in old (local_index (same_old s) g) j) (found (map (globally rows) cells) g j))
              ∙ (λ s. after_one R mode false (number_in old (p s) j) (found-globally cells below g l j p s)))

      -- a first part of them
      pub part-gathered : (cells : List (Cell S)) (all : List (Cell S)) → AreRowsBelow (length rows) cells → AreApart cells → map (globally rows) cells ≡ all
          → IsPartOf R mode false (local_table old) cells (local_table new)
          → IsPartGathered R mode (row_table old) all (row_table new)
      part-gathered cells all below apart e part =
          let B : List (Cell S) → Type 0 = AreRowsBelow (length rows) in
          let A : List (Cell S) → Type 0 = AreApart in
          record {
            done = map (globally rows) part.done;
            rest = map (globally rows) part.rest;
            cells_are = sym e ∙ ap (map (globally rows)) part.cells_are ∙ map-append (globally rows) part.done part.rest;
            table = gathered part.done
                (below-first (length rows) part.done part.rest (subst B part.cells_are below))
                (apart-first part.done part.rest (subst A part.cells_are apart))
                part.table;
          }
