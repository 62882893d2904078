-- Rows that become columns.
use Rattle.std.proofs.Common.{◌≡◌, ℕ, zero, suc, ◌+◌, ◌<◌, ◌≤◌, Bool, true, false, ◌&&◌, ◌||◌, cond, eqb, nat_lt, ◌⊎◌, List, [], ◌∷◌, length, map, get_or, take, Option, Some, None, inl, inr, refl, sym, ap, ◌∙◌, arith}
use Rattle.std.proofs.lemmas.Bool.{cases_eq, eqb-true, eq-eqb, ne_eqb, lt-ltb, le-ltb, cases_lt}
use Rattle.std.proofs.lemmas.Option.{slice_get-get_or, slice_get_within}
use Rattle.scalar_laws.specs.Semiring.{Semiring, IsSemiring}
use Rattle.tables.specs.Indices.{stands, AreDistinct}
use Rattle.tables.specs.Sums.{both_or_one}
use Rattle.tables.specs.Tables.{Table}
use Rattle.combine_modes.specs.declared.mode.Mode.TheVariants.{Add}
use Rattle.combine_modes.specs.Modes.{after_one}
use Rattle.distributor.specs.Entries.{with_cell}
use Rattle.map_core.specs.Layouts.{global_index, local_index}
use Rattle.map_core.proofs.Members.{stands-take_more, or_false}
use Rattle.map_core.proofs.Places.{global_index-from, local_index-absent, local_index-from}
use Rattle.model_defs.specs.Operations.{transpose}
use Rattle.crs_graph.proofs.ColumnLists.{no_repeat}
use Rattle.crs_graph.proofs.Ascending.{AreDistinct-ascending}
use Rattle.crs_graph.specs.Ascending.{IsAscending}
use Rattle.crs_matrix.specs.Matrices.{crs_local, crs_number, crs_table, number_at_place, Crs}
use Rattle.crs_matrix.specs.Rows.{local_table, number_at, number_in, row_table, RowCells}
use Rattle.transpose.specs.Columns.{with_column}

-- the numbers at these indices, and no others
abbrev pub only_at : {S : Type 0} → (ℕ → Option S) → List ℕ → ℕ → Option S
only_at u ls l = cond (stands l ls) (u l) None

module _ {S : Type 0} (R : Semiring S) (L : IsSemiring R) (before : Table S) (gid : ℕ) where
  none_more : (o : Option S) → both_or_one R.plus o None ≡ o
  none_more None = refl
  none_more (Some v) = refl

  -- one more place of the row
  pub column-more : (u : ℕ → Option S) (columns : List ℕ) (at c : ℕ) (n : S) (now next : Table S) → AreDistinct columns → at < length columns → get_or columns at 0 ≡ c
      → u c ≡ Some n → now ≡ with_column R before gid (only_at u (take at columns)) → next ≡ with_cell R Add false now c gid n
      → next ≡ with_column R before gid (only_at u (take (at + 1) columns))
  column-more u columns at c n now next distinct low here is h step = step ∙ (λ t i k. each i k t)
    where
      number : (i k : ℕ) → c ≡ i → gid ≡ k → after_one R Add false (now c gid) (Some n) ≡ both_or_one R.plus (now i k) (Some n)
      number i k row column = (λ t. both_or_one R.plus (now (row t) (column t)) (Some ((L.plus_comm n R.nought ∙ L.plus_nought n) t)))

      more : (i : ℕ) → stands i (take (at + 1) columns) ≡ (stands i (take at columns) || eqb (get_or columns at 0) i)
      more i = stands-take_more i columns at low

      each : (i k : ℕ) → cond (eqb c i && eqb gid k) (after_one R Add false (now c gid) (Some n)) (now i k)
          ≡ cond (eqb gid k) (both_or_one R.plus (before i k) (only_at u (take (at + 1) columns) i)) (before i k)
      each i k = go (eqb c i) (eqb gid k) refl refl
        where
          inside : (b : Bool) → eqb gid k ≡ b → now i k ≡ cond b (both_or_one R.plus (before i k) (only_at u (take at columns) i)) (before i k)
          inside b q = (λ t. h t i k) ∙ ap (λ b. cond b (both_or_one R.plus (before i k) (only_at u (take at columns) i)) (before i k)) q

          new : eqb c i ≡ true → stands i (take at columns) ≡ false
          new p = no_repeat columns at i distinct (slice_get-get_or columns at 0 low ∙ ap Some (here ∙ eqb-true c i p))

          there : eqb c i ≡ true → only_at u (take (at + 1) columns) i ≡ Some n
          there p =
              ap (λ b. cond b (u i) None) (more i ∙ ap (λ b. b || eqb (get_or columns at 0) i) (new p) ∙ ap (λ g. eqb g i) here ∙ p)
              ∙ ap u (sym (eqb-true c i p))
              ∙ is

          same : eqb c i ≡ false → only_at u (take (at + 1) columns) i ≡ only_at u (take at columns) i
          same p =
              ap (λ b. cond b (u i) None) (more i ∙ ap (λ b. stands i (take at columns) || b) (ap (λ g. eqb g i) here ∙ p) ∙ or_false (stands i (take at columns)))

          go : (a b : Bool) → eqb c i ≡ a → eqb gid k ≡ b → cond (a && b) (after_one R Add false (now c gid) (Some n)) (now i k)
              ≡ cond b (both_or_one R.plus (before i k) (only_at u (take (at + 1) columns) i)) (before i k)
          go true true p q =
              number i k (eqb-true c i p) (eqb-true gid k q)
              ∙ ap (λ o. both_or_one R.plus o (Some n)) (inside true q ∙ ap (λ b. both_or_one R.plus (before i k) (cond b (u i) None)) (new p) ∙ none_more (before i k))
              ∙ ap (both_or_one R.plus (before i k)) (sym (there p))
          go false true p q = inside true q ∙ ap (both_or_one R.plus (before i k)) (sym (same p))
          go true false p q = inside false q
          go false false p q = inside false q

  -- all places of the row
  pub column-done : (columns : List ℕ) (numbers : List S) (now : Table S)
      → now ≡ with_column R before gid (only_at (λ l. number_at_place numbers (local_index columns l)) columns)
      → now ≡ with_column R before gid (λ l. number_at_place numbers (local_index columns l))
  column-done columns numbers now h = h ∙ (λ t i k. cond (eqb gid k) (both_or_one R.plus (before i k) (all i (stands i columns) refl t)) (before i k))
    where
      all : (i : ℕ) (b : Bool) → stands i columns ≡ b → cond (stands i columns) (number_at_place numbers (local_index columns i)) None ≡ number_at_place numbers (local_index columns i)
      all i true p = ap (λ b. cond b (number_at_place numbers (local_index columns i)) None) p
      all i false p = ap (λ b. cond b (number_at_place numbers (local_index columns i)) None) p ∙ sym (ap (number_at_place numbers) (local_index-absent columns i p))

-- the number of a place
pub place-number : {S : Type 0} (columns : List ℕ) (numbers : List S) (at : ℕ) (n : S) → IsAscending columns → at < length columns → length numbers ≡ length columns
    → n ≡ get_or numbers at n → number_at_place numbers (local_index columns (get_or columns at 0)) ≡ Some n
place-number columns numbers at n up low many is =
    ap (number_at_place numbers) (local_index-from columns (get_or columns at 0) at (AreDistinct-ascending columns up) (slice_get-get_or columns at 0 low))
    ∙ slice_get-get_or numbers at n (omega arith) ∙ ap Some (sym is)

-- the number at a column of a row, if that is one of the first rows
abbrev pub number_before : {S : Type 0} → Crs S → ℕ → ℕ → Option ℕ → Option S
number_before a count c None = None
number_before a count c (Some l) = cond (nat_lt l count) (crs_local a l c) None

-- the first rows are columns of the result, and its other columns have no places
pub record IsTurned {S : Type 0} (count : ℕ) (a : Crs S) (made : RowCells S) : Type 0 where
  pub rows : made.rows ≡ a.graph.cols
  pub done : (i j : ℕ) → local_table made i j ≡ number_before a count i (local_index a.graph.rows j)

-- no row yet
pub turned-none : {S : Type 0} (a : Crs S) (made : RowCells S) → made ≡ record { rows = a.graph.cols; cells = map (λ _. []) a.graph.cols } → IsTurned 0 a made
turned-none {S} a made m = record {
  rows = ap (λ n. n.rows) m;
  done = λ i j. ap (λ n. local_table n i j) m ∙ nothing a.graph.cols i j ∙ none i (local_index a.graph.rows j);
}
  where
    nothing : (rows : List ℕ) (i j : ℕ) → number_at {S = S} (get_or (map (λ _. []) rows) i []) j ≡ None
    nothing [] i j = refl
    nothing (r ∷ rs) zero j = refl
    nothing (r ∷ rs) (suc i) j = nothing rs i j

    none : (i : ℕ) (o : Option ℕ) → None ≡ number_before a 0 i o
    none i None = refl
    none i (Some l) = sym (ap (λ b. cond b (crs_local a l i) None) (le-ltb l 0 (omega arith)))

module _ {S : Type 0} (R : Semiring S) where
  -- one more row
  pub turned-more : (count gid : ℕ) (a : Crs S) (made after : RowCells S) (column : ℕ → Option S) → IsTurned count a made → after.rows ≡ made.rows → AreDistinct a.graph.rows
      → global_index a.graph.rows count ≡ Some gid → local_table after ≡ with_column R (local_table made) gid column
      → ((i : ℕ) → column i ≡ crs_local a count i) → IsTurned (count + 1) a after
  turned-more count gid a made after column h rows distinct there step is = record {
    rows = rows ∙ h.rows;
    done = λ i j. (λ t. step t i j) ∙ each i j (cases_eq gid j);
  }
    where
      own : (i j : ℕ) → gid ≡ j → local_index a.graph.rows j ≡ Some count
      own i j e = ap (local_index a.graph.rows) (sym e) ∙ local_index-from a.graph.rows gid count distinct there

      same : (i j : ℕ) (o : Option ℕ) → (gid ≡ j → ⊥) → local_index a.graph.rows j ≡ o → number_before a count i o ≡ number_before a (count + 1) i o
      same i j None other e = refl
      same i j (Some l) other e = ap (λ b. cond b (crs_local a l i) None) (same_lt (cases_lt l count))
        where
          apart : count ≡ l → ⊥
          apart f =
              let found = global_index-from a.graph.rows j l e in
              let both : Some gid ≡ Some j = sym there ∙ ap (global_index a.graph.rows) f ∙ found in
              other (cc)

          same_lt : (l < count) ⊎ (count ≤ l) → nat_lt l count ≡ nat_lt l (count + 1)
          same_lt (inl low) = lt-ltb l count low ∙ sym (lt-ltb l (count + 1) (omega arith))
          same_lt (inr high) = elim (cases_eq count l) [
            | inl f ↦ absurd (apart f)
            | inr f ↦ le-ltb l count high ∙ sym (le-ltb l (count + 1) (omega arith))
          ]

      each : (i j : ℕ) → (gid ≡ j) ⊎ (gid ≡ j → ⊥)
          → cond (eqb gid j) (both_or_one R.plus (local_table made i j) (column i)) (local_table made i j) ≡ number_before a (count + 1) i (local_index a.graph.rows j)
      each i j (inl e) =
          ap (λ b. cond b (both_or_one R.plus (local_table made i j) (column i)) (local_table made i j)) (eq-eqb gid j e)
          ∙ ap (λ o. both_or_one R.plus o (column i))
          (h.done i j ∙ ap (number_before a count i) (own i j e) ∙ ap (λ b. cond b (crs_local a count i) None) (le-ltb count count (omega arith)))
          ∙ is i
          ∙ sym (ap (number_before a (count + 1) i) (own i j e) ∙ ap (λ b. cond b (crs_local a count i) None) (lt-ltb count (count + 1) (omega arith)))
      each i j (inr e) =
          ap (λ b. cond b (both_or_one R.plus (local_table made i j) (column i)) (local_table made i j)) (ne_eqb gid j e)
          ∙ h.done i j
          ∙ same i j (local_index a.graph.rows j) e refl

-- all rows
pub turned-all : {S : Type 0} (a : Crs S) (made : RowCells S) → IsTurned (length a.graph.rows) a made → row_table made ≡ transpose (crs_table a)
turned-all {S} a made h = λ t i j. each i j t
  where
    own : (i j : ℕ) (o p : Option ℕ) → local_index a.graph.rows j ≡ p → number_in made o j ≡ crs_number a p o
    own i j None None e = refl
    own i j None (Some l) e = refl
    own i j (Some c) None e = h.done c j ∙ ap (number_before a (length a.graph.rows) c) e
    own i j (Some c) (Some l) e =
        h.done c j
        ∙ ap (number_before a (length a.graph.rows) c) e
        ∙ ap (λ b. cond b (crs_local a l c) None) (lt-ltb l (length a.graph.rows) (slice_get_within a.graph.rows l j (global_index-from a.graph.rows j l e)))

    each : (i j : ℕ) → row_table made i j ≡ crs_table a j i
    each i j =
        ap (λ xs. number_in made (local_index xs i) j) h.rows
        ∙ own i j (local_index a.graph.cols i) (local_index a.graph.rows j) refl
