-- The product, row after row.
use Rattle.std.proofs.Common.{◌≡◌, ℕ, zero, suc, ◌+◌, ◌<◌, ◌≤◌, Bool, true, false, cond, List, [], ◌∷◌, length, map, get_or, replicate, ◌⊎◌, Option, Some, None, refl, sym, ap, subst, ◌∙◌, arith, inl, inr}
use Rattle.std.specs.Prelude.{slice_get, is_some}
use Rattle.std.specs.List.{zip}
use Rattle.std.proofs.lemmas.Bool.{cases_eq, eq-eqb, ne_eqb}
use Rattle.std.proofs.lemmas.Grind.{get_or_default_zero}
use Rattle.std.proofs.lemmas.Option.{get_or_from_slice_get, slice_get-get_or, slice_get_within}
use Rattle.scalar_laws.specs.Semiring.{Semiring, IsSemiring}
use Rattle.tables.specs.Indices.{stands, AreBelow}
use Rattle.tables.specs.Sums.{both_or_one, if_there, total_below}
use Rattle.tables.specs.Tables.{Table}
use Rattle.tables.proofs.Sums.{places-IsJoining, total_below-ext}
use Rattle.map_core.specs.Layouts.{local_index}
use Rattle.map_core.proofs.Places.{global_index-from, local_index-absent, local_index-from}
use Rattle.model_defs.specs.Operations.{product, times_there}
use Rattle.crs_graph.specs.Ascending.{IsAscending}
use Rattle.crs_graph.specs.Graphs.{graph_row}
use Rattle.crs_graph.proofs.AllColumns.{stands-to}
use Rattle.crs_graph.proofs.Ascending.{AreDistinct-ascending}
use Rattle.crs_matrix.proofs.Numbers.{slice_get-there}
use Rattle.sparse_product.proofs.Links.{slice_get-zip}
use Rattle.crs_matrix.specs.Matrices.{crs_number, crs_table, number_at_place, numbers, Crs, IsCrs}
use Rattle.crs_matrix.specs.Rows.{columns_in, local_table, number_at, number_in, row_table, RowCells}
use Rattle.sparse_product.specs.Rows.{product_row, with_row}
use Rattle.sparse_product.proofs.Products.{global-product, no-product, number-absent, number-own, pick}

-- the cells of a row of a matrix, by local columns
abbrev pub row_terms : {S : Type 0} → Crs S → ℕ → List (ℕ × S)
row_terms a l = zip (graph_row a.graph l) (numbers a l)

-- the first rows are those of the product, and the dense row is empty
pub record IsBuilt {S : Type 0} (R : Semiring S) (width count : ℕ) (a : Crs S) (b : Table S) (row : List (Option S)) (made : RowCells S) : Type 0 where
  pub rows : made.rows ≡ a.graph.rows
  pub empty : row ≡ replicate width None
  pub done : (l j : ℕ) → l < count → local_table made l j ≡ product_row R (row_terms a l) b j
  pub rest : (l j : ℕ) → count ≤ l → local_table made l j ≡ None

module _ {S : Type 0} (R : Semiring S) (L : IsSemiring R) where
  -- rows without cells have no number
  pub nothing : (rows : List ℕ) (l j : ℕ) → number_at {S = S} (get_or (map (λ _. []) rows) l []) j ≡ None
  nothing [] l j = refl
  nothing (r ∷ rs) zero j = refl
  nothing (r ∷ rs) (suc l) j = nothing rs l j

  pub built-none : (width : ℕ) (a : Crs S) (b : Table S) (row : List (Option S)) (made : RowCells S) → row ≡ replicate width None
      → made ≡ record { rows = a.graph.rows; cells = map (λ _. []) a.graph.rows } → IsBuilt R width 0 a b row made
  built-none width a b row made e m = record {
    rows = ap (λ n. n.rows) m;
    empty = e;
    done = λ l j low. absurd (omega arith);
    rest = λ l j le. ap (λ n. local_table n l j) m ∙ nothing a.graph.rows l j;
  }

  pub built-more : (width count : ℕ) (a : Crs S) (b : Table S) (row next : List (Option S)) (made after : RowCells S) (sum : ℕ → Option S) → IsBuilt R width count a b row made
      → after.rows ≡ made.rows → next ≡ replicate width None
      → local_table after ≡ with_row R (local_table made) count sum
      → ((j : ℕ) → sum j ≡ product_row R (row_terms a count) b j)
      → IsBuilt R width (count + 1) a b next after
  built-more width count a b row next made after sum h rows empty step is = record {
    rows = rows ∙ h.rows;
    empty = empty;
    done = λ l j low. doing l j low (cases_eq count l);
    rest = λ l j le. (λ t. step t l j) ∙ ap (λ c. cond c (both_or_one R.plus (local_table made l j) (sum j)) (local_table made l j)) (ne_eqb count l (λ e. absurd (omega arith))) ∙ h.rest l j (omega arith);
  }
    where
      doing : (l j : ℕ) → l < count + 1 → (count ≡ l) ⊎ (count ≡ l → ⊥) → local_table after l j ≡ product_row R (row_terms a l) b j
      doing l j low (inl same) =
          (λ t. step t l j)
          ∙ ap (λ c. cond c (both_or_one R.plus (local_table made l j) (sum j)) (local_table made l j)) (eq-eqb count l same)
          ∙ ap (λ o. both_or_one R.plus o (sum j)) (h.rest l j (omega arith))
          ∙ is j
          ∙ ap (λ k. product_row R (row_terms a k) b j) same
      doing l j low (inr other) =
          (λ t. step t l j)
          ∙ ap (λ c. cond c (both_or_one R.plus (local_table made l j) (sum j)) (local_table made l j)) (ne_eqb count l other)
          ∙ h.done l j (below l low other)
        where
          below : (l : ℕ) → l < count + 1 → (count ≡ l → ⊥) → l < count
          below l low other = elim (cases_eq count l) [ inl same ↦ absurd (other same) | inr apart ↦ grind arith ]

  -- ---- by global indices

  zip_columns : (ks : List ℕ) (vs : List S) → length vs ≡ length ks → columns_in (zip ks vs) ≡ ks
  zip_columns [] vs e = refl
  zip_columns (k ∷ ks) [] e = absurd (omega arith)
  zip_columns (k ∷ ks) (v ∷ vs) e = ap (λ xs. k ∷ xs) (zip_columns ks vs (omega arith))

  pub number_zip : (ks : List ℕ) (vs : List S) (k : ℕ) → IsAscending ks → length vs ≡ length ks → number_at_place vs (local_index ks k) ≡ number_at (zip ks vs) k
  number_zip ks vs k up e = go (stands k ks) refl
    where
      columns : columns_in (zip ks vs) ≡ ks
      columns = zip_columns ks vs e

      found : (p : ℕ) (o : Option S) → slice_get vs p ≡ o → p < length ks → get_or ks p 0 ≡ k → o ≡ number_at (zip ks vs) k
      found p None f low at =
          let there = slice_get-there vs p (omega (arith, e)) in
          let bad : false ≡ true = ap is_some (sym f) ∙ there in
          absurd (cc)
      found p (Some v) f low at =
          sym (ap (number_at (zip ks vs)) (sym at)
          ∙ number-own (zip ks vs) (subst IsAscending (sym columns) up) p (get_or ks p 0, v) (slice_get-zip ks vs p v low (omega (arith, e)) (sym (get_or_from_slice_get vs p v v f))))

      go : (b : Bool) → stands k ks ≡ b → number_at_place vs (local_index ks k) ≡ number_at (zip ks vs) k
      go false t = ap (number_at_place vs) (local_index-absent ks k t) ∙ sym (number-absent (zip ks vs) k (ap (stands k) columns ∙ t))
      go true t =
          let c = stands-to ks k t in
          let at : get_or ks c.0 0 ≡ k = sym (get_or_default_zero ks c.0 k c.1) ∙ c.2 in
          ap (number_at_place vs) (local_index-from ks k c.0 (AreDistinct-ascending ks up) (slice_get-get_or ks c.0 0 c.1 ∙ ap Some at))
          ∙ found c.0 (slice_get vs c.0) refl c.1 at

  pub whole-product : (a : Crs S) (b made : RowCells S) (width : ℕ) (row : List (Option S)) (n : ℕ) → IsCrs a → b.rows ≡ a.graph.cols → AreBelow n a.graph.cols
      → IsBuilt R width (length a.graph.rows) a (local_table b) row made
      → row_table made ≡ product R n (crs_table a) (row_table b)
  whole-product a b made width row n is same below h = λ t i j. each i j t
    where
      each : (i j : ℕ) → row_table made i j ≡ product R n (crs_table a) (row_table b) i j
      each i j = ap (λ xs. number_in made (local_index xs i) j) h.rows ∙ go (local_index a.graph.rows i) refl
        where
          other : (g : ℕ) (o : Option ℕ) → number_in b o j ≡ pick (λ k. local_table b k j) o
          other g None = refl
          other g (Some k) = refl

          own : (l : ℕ) (o : Option ℕ) → crs_number a (Some l) o ≡ pick (number_at (row_terms a l)) o
          own l None = refl
          own l (Some k) = number_zip (graph_row a.graph l) (numbers a l) k (is.graph.ascend l) (is.as_many l)

          nothing : (o : Option ℕ) → crs_number a None o ≡ None
          nothing None = refl
          nothing (Some k) = refl

          go : (o : Option ℕ) → local_index a.graph.rows i ≡ o → number_in made o j ≡ total_below (if_there R.plus) n (λ g. times_there R (crs_table a i g) (row_table b g j))
          go None e =
              sym (no-product R L n (λ g. row_table b g j))
              ∙ total_below-ext (places-IsJoining L) n (λ g. times_there R None (row_table b g j)) (λ g. times_there R (crs_table a i g) (row_table b g j))
              (λ g low. ap (λ v. times_there R v (row_table b g j)) (sym (ap (λ o. crs_number a o (local_index a.graph.cols g)) e ∙ nothing (local_index a.graph.cols g))))
          go (Some l) e =
              let columns = zip_columns (graph_row a.graph l) (numbers a l) (is.as_many l) in
              h.done l j (slice_get_within a.graph.rows l i (global_index-from a.graph.rows i l e))
              ∙ sym (global-product R L a.graph.cols n is.graph.distinct below (row_terms a l) (subst IsAscending (sym columns) (is.graph.ascend l)) (subst (AreBelow (length a.graph.cols)) (sym columns) (is.graph.within l)) (local_table b) j)
              ∙ total_below-ext (places-IsJoining L) n (λ g. times_there R (pick (number_at (row_terms a l)) (local_index a.graph.cols g)) (pick (λ k. local_table b k j) (local_index a.graph.cols g))) (λ g. times_there R (crs_table a i g) (row_table b g j))
              (λ g low. (λ t. times_there R
              (sym (ap (λ o. crs_number a o (local_index a.graph.cols g)) e ∙ own l (local_index a.graph.cols g)) t)
              (sym (ap (λ xs. number_in b (local_index xs g) j) same ∙ other g (local_index a.graph.cols g)) t)))
