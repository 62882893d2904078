-- The sum of two matrices, row after row.
use Rattle.std.proofs.Common.{◌≡◌, ℕ, suc, ◌+◌, ◌<◌, ◌≤◌, cond, List, [], ◌∷◌, length, map, get_or, ◌⊎◌, Option, Some, None, refl, sym, ap, ◌∙◌, arith, inl, inr}
use Rattle.std.specs.Prelude.{slice_get}
use Rattle.std.specs.Option.{option_map}
use Rattle.std.proofs.lemmas.Bool.{cases_eq, eq-eqb, ne_eqb}
use Rattle.std.proofs.lemmas.Option.{slice_get_within}
use Rattle.scalar_laws.specs.Semiring.{Semiring, IsSemiring}
use Rattle.tables.specs.Indices.{stands}
use Rattle.tables.specs.Sums.{both_or_one}
use Rattle.map_core.specs.Layouts.{local_index}
use Rattle.map_core.proofs.Places.{global_index-from, local_index-absent}
use Rattle.distributor.specs.Entries.{entry_at}
use Rattle.model_defs.specs.Operations.{combination, times_there}
use Rattle.crs_graph.proofs.GraphPlaces.{none_stands}
use Rattle.crs_matrix.specs.Rows.{entries_of, local_table, number_in, row_entries, row_table, IsRowCells, RowCells}
use Rattle.crs_matrix.proofs.Clauses.{entry-of}
use Rattle.sparse_product.specs.Rows.{scaled_at, with_row}
use Rattle.sparse_product.proofs.Gathered.{scaled-once}
use Rattle.sparse_product.proofs.WholeProduct.{nothing}

-- there is an entry for each row
count-entries : {S : Type 0} (rows : List ℕ) (cells : List (List (ℕ × S))) → length cells ≡ length rows → length (entries_of rows cells) ≡ length rows
count-entries [] cells e = refl
count-entries (g ∷ gs) [] e = absurd (omega arith)
count-entries (g ∷ gs) (c ∷ cs) e = ap suc (count-entries gs cs (omega arith))

pub entry-known : {S : Type 0} (a : RowCells S) (l : ℕ) → IsRowCells a → l < length a.rows → l < length (row_entries a)
entry-known a l is low = let all = count-entries a.rows a.cells is.each in omega arith

-- the first rows are those of the sum, and the others are empty
pub record IsAdded {S : Type 0} (R : Semiring S) (alpha beta : S) (count : ℕ) (a b made : RowCells S) : Type 0 where
  pub rows : made.rows ≡ a.rows
  pub done : (l g j : ℕ) → l < count → slice_get a.rows l ≡ Some g → local_table made l j ≡ both_or_one R.plus (option_map (R.times alpha) (local_table a l j)) (option_map (R.times beta) (row_table b g j))
  pub rest : (l j : ℕ) → count ≤ l → local_table made l j ≡ None

module _ {S : Type 0} (R : Semiring S) (L : IsSemiring R) where
  there : (factor : S) (o : Option S) → times_there R (Some factor) o ≡ option_map (R.times factor) o
  there factor None = refl
  there factor (Some v) = refl

  entry-scaled : (factor : S) (a : RowCells S) (l j : ℕ) → IsRowCells a → l < length a.rows → scaled_at R factor (entry_at (row_entries a) l).cells j ≡ option_map (R.times factor) (local_table a l j)
  entry-scaled factor a l j is low =
      ap (λ e. scaled_at R factor e.cells j) (entry-of a.rows a.cells l is.each low)
      ∙ scaled-once R L factor (get_or a.cells l []) j (is.ascend l)
      ∙ there factor (local_table a l j)

  pub sum-none : (alpha beta : S) (a b made : RowCells S) → made ≡ record { rows = a.rows; cells = map (λ _. []) a.rows } → IsAdded R alpha beta 0 a b made
  sum-none alpha beta a b made m = record {
    rows = ap (λ n. n.rows) m;
    done = λ l g j low at. absurd (omega arith);
    rest = λ l j le. ap (λ n. local_table n l j) m ∙ nothing R L a.rows l j;
  }

  pub sum-more : (alpha beta : S) (count g k : ℕ) (a b made mid after : RowCells S) → IsAdded R alpha beta count a b made → IsRowCells a → IsRowCells b
      → slice_get a.rows count ≡ Some g → local_index b.rows g ≡ Some k → mid.rows ≡ made.rows → after.rows ≡ mid.rows
      → local_table mid ≡ with_row R (local_table made) count (scaled_at R alpha (entry_at (row_entries a) count).cells)
      → local_table after ≡ with_row R (local_table mid) count (scaled_at R beta (entry_at (row_entries b) k).cells)
      → IsAdded R alpha beta (count + 1) a b after
  sum-more alpha beta count g k a b made mid after h is_a is_b at here rows more first second = record {
    rows = more ∙ rows ∙ h.rows;
    done = λ l i j low there. doing l i j low there (cases_eq count l);
    rest = λ l j le. other l j (λ e. absurd (omega arith)) ∙ h.rest l j (omega arith);
  }
    where
      other : (l j : ℕ) → (count ≡ l → ⊥) → local_table after l j ≡ local_table made l j
      other l j apart =
          (λ t. second t l j)
          ∙ ap (λ c. cond c (both_or_one R.plus (local_table mid l j) (scaled_at R beta (entry_at (row_entries b) k).cells j)) (local_table mid l j)) (ne_eqb count l apart)
          ∙ (λ t. first t l j)
          ∙ ap (λ c. cond c (both_or_one R.plus (local_table made l j) (scaled_at R alpha (entry_at (row_entries a) count).cells j)) (local_table made l j)) (ne_eqb count l apart)

      own : (j : ℕ) → local_table after count j ≡ both_or_one R.plus (option_map (R.times alpha) (local_table a count j)) (option_map (R.times beta) (row_table b g j))
      own j =
          (λ t. second t count j)
          ∙ ap (λ c. cond c (both_or_one R.plus (local_table mid count j) (scaled_at R beta (entry_at (row_entries b) k).cells j)) (local_table mid count j)) (eq-eqb count count refl)
          ∙ ap (λ o. both_or_one R.plus o (scaled_at R beta (entry_at (row_entries b) k).cells j)) (
          (λ t. first t count j)
          ∙ ap (λ c. cond c (both_or_one R.plus (local_table made count j) (scaled_at R alpha (entry_at (row_entries a) count).cells j)) (local_table made count j)) (eq-eqb count count refl)
          ∙ ap (λ o. both_or_one R.plus o (scaled_at R alpha (entry_at (row_entries a) count).cells j)) (h.rest count j (omega arith)))
          ∙ (λ t. both_or_one R.plus
          (entry-scaled alpha a count j is_a (slice_get_within a.rows count g at) t)
          ((entry-scaled beta b k j is_b (slice_get_within b.rows k g (global_index-from b.rows g k here)) ∙ ap (λ o. option_map (R.times beta) (number_in b o j)) (sym here)) t))

      doing : (l i j : ℕ) → l < count + 1 → slice_get a.rows l ≡ Some i → (count ≡ l) ⊎ (count ≡ l → ⊥)
          → local_table after l j ≡ both_or_one R.plus (option_map (R.times alpha) (local_table a l j)) (option_map (R.times beta) (row_table b i j))
      doing l i j low there (inl same) =
          let two : Some g ≡ Some i = sym at ∙ ap (slice_get a.rows) same ∙ there in
          let index : g ≡ i = cc in
          ap (λ n. local_table after n j) (sym same) ∙ own j ∙ (λ t. both_or_one R.plus (option_map (R.times alpha) (local_table a (same t) j)) (option_map (R.times beta) (row_table b (index t) j)))
      doing l i j low there (inr apart) = other l j apart ∙ h.done l i j (below l low apart) there
        where
          below : (l : ℕ) → l < count + 1 → (count ≡ l → ⊥) → l < count
          below l low other = elim (cases_eq count l) [ inl same ↦ absurd (other same) | inr apart ↦ grind arith ]

  pub whole-sum : (alpha beta : S) (a b made : RowCells S) → ((g : ℕ) → stands g a.rows ≡ stands g b.rows) → IsAdded R alpha beta (length a.rows) a b made
      → row_table made ≡ combination R alpha (row_table a) beta (row_table b)
  whole-sum alpha beta a b made same h = λ t i j. (ap (λ xs. number_in made (local_index xs i) j) h.rows ∙ go i j (local_index a.rows i) refl) t
    where
      go : (i j : ℕ) (o : Option ℕ) → local_index a.rows i ≡ o → number_in made o j ≡ both_or_one R.plus (option_map (R.times alpha) (number_in a o j)) (option_map (R.times beta) (row_table b i j))
      go i j None e = sym (ap (λ o. option_map (R.times beta) (number_in b o j)) (local_index-absent b.rows i (sym (same i) ∙ none_stands a.rows i e)))
      go i j (Some l) e = let at = global_index-from a.rows i l e in h.done l i j (slice_get_within a.rows l i at) at
