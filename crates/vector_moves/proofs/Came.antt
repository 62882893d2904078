-- Rows that come for positions of a vector, as tables.
use Rattle.std.proofs.Common.{◌≡◌, ℕ, zero, suc, ◌+◌, ◌*◌, ◌<◌, ◌≤◌, Bool, true, false, cond, ◌&&◌, ◌||◌, eqb, ltb, List, [], ◌∷◌, ◌++◌, map, Option, Some, None, refl, sym, ap, subst, ◌∙◌, arith, length, get_or, take, drop, replicate, add-one}
use Rattle.std.specs.Prelude.{slice_get}
use Rattle.std.specs.List.{list_all, zip}
use Rattle.std.specs.Option.{option_and_then}
use Rattle.std.proofs.lemmas.Bool.{eqb-true, eqb-false, eq-eqb, ne_eqb, ltb-true, lt-ltb}
use Rattle.std.proofs.lemmas.List.Sums.{fold-append}
use Rattle.std.proofs.lemmas.Option.{slice_get-get_or, get_or_from_slice_get, same_Some}
use Rattle.scalar_laws.specs.Semiring.{Semiring}
use Rattle.tables.specs.declared.Cell.{Cell}
use Rattle.tables.specs.Tables.{Table}
use Rattle.tables.specs.Indices.{stands, AreDistinct, AreBelow, count_from}
use Rattle.map_core.specs.Layouts.{local_index, global_index}
use Rattle.map_core.specs.Classes.{index_at, indices_at}
use Rattle.map_core.proofs.Places.{local_index-from, global_index-from}
use Rattle.combine_modes.specs.declared.mode.Mode.{Mode}
use Rattle.combine_modes.specs.declared.mode.Mode.TheVariants.{Insert, Replace, Add, AbsMax, Zero}
use Rattle.combine_modes.specs.Modes.{after_one, gathered}
use Rattle.distributor.specs.Entries.{Entry, entry_at, placed, cells_for, with_cell, with_cells}
use Rattle.distributor.specs.Transfers.{moved_cells}
use Rattle.distributor.proofs.Numbered.{entry_at-numbered, length-take_most, length-take_few, length-drop_most, slice_get-drop, slice_get-take}
use Rattle.multivector.specs.Vectors.{VectorState, IsVector, has_cell, vector_table, vector_entries}
use Rattle.multivector.proofs.Cells.{has-cell, row-within}
use Rattle.vector_moves.specs.Rows.{by_index, rows_of, row_numbers}

module _ {S : Type 0} where
  -- the cells of a row at one position, in the columns from k on
  abbrev pub row_cells : ℕ → ℕ → List S → List (Cell S)
  row_cells to k [] = []
  row_cells to k (v ∷ vs) = record { row = to; col = k; value = v } ∷ row_cells to (k + 1) vs

  -- the number of a row in a column, where its first one is in column k
  abbrev pub in_column : ℕ → List S → ℕ → Option S
  in_column k [] j = None
  in_column k (v ∷ vs) j = cond (eqb k j) (Some v) (in_column (k + 1) vs j)

  -- the cells of rows, each at its position
  abbrev pub rows_cells : List (List S) → List ℕ → List (Cell S)
  rows_cells [] tos = []
  rows_cells (r ∷ rs) [] = []
  rows_cells (r ∷ rs) (to ∷ tos) = row_cells to 0 r ++ rows_cells rs tos

  -- the number that comes for a position and a column
  abbrev pub came : List (List S) → List ℕ → ℕ → ℕ → Option S
  came [] tos i j = None
  came (r ∷ rs) [] i j = None
  came (r ∷ rs) (to ∷ tos) i j = cond (eqb to i) (in_column 0 r j) (came rs tos i j)

  -- each row has so many numbers
  abbrev pub HaveLength : ℕ → List (List S) → Type 0
  HaveLength w [] = Unit {0}
  HaveLength w (r ∷ rs) = (length r ≡ w) × HaveLength w rs

  pub in_column-before : (k : ℕ) (vs : List S) (j : ℕ) → j < k → in_column k vs j ≡ None
  in_column-before k [] j l = refl
  in_column-before k (v ∷ vs) j l =
      ap (λ b. cond b (Some v) (in_column (k + 1) vs j)) (ne_eqb k j (λ e. absurd (omega (arith, e, l))))
      ∙ in_column-before (k + 1) vs j (omega arith)

  pub in_column-is : (k : ℕ) (vs : List S) (j n : ℕ) → j ≡ k + n → in_column k vs j ≡ slice_get vs n
  in_column-is k [] j n e = refl
  in_column-is k (v ∷ vs) j zero e = ap (λ b. cond b (Some v) (in_column (k + 1) vs j)) (eq-eqb k j (omega (arith, e)))
  in_column-is k (v ∷ vs) j (suc n) e =
      ap (λ b. cond b (Some v) (in_column (k + 1) vs j)) (ne_eqb k j (λ f. absurd (omega (arith, e, f))))
      ∙ in_column-is (k + 1) vs j n (omega (arith, e))

  pub came-absent : (rs : List (List S)) (tos : List ℕ) (i j : ℕ) → stands i tos ≡ false → came rs tos i j ≡ None
  came-absent [] tos i j e = refl
  came-absent (r ∷ rs) [] i j e = refl
  came-absent (r ∷ rs) (to ∷ tos) i j e = by (eqb to i) (came-absent rs tos i j) e
    where
      by : (b : Bool) → (stands i tos ≡ false → came rs tos i j ≡ None) → (b || stands i tos) ≡ false → cond b (in_column 0 r j) (came rs tos i j) ≡ None
      by true rest h = absurd (cc)
      by false rest h = rest h

  module _ (R : Semiring S) (mode : Mode) (fixed : Bool) where
    -- after the cells of one row came
    after-row : (t : Table S) (to k : ℕ) (vs : List S) (i j : ℕ)
        → with_cells R mode fixed t (row_cells to k vs) i j ≡ after_one R mode fixed (t i j) (cond (eqb to i) (in_column k vs j) None)
    after-row t to k [] i j = by (eqb to i)
      where
        by : (b : Bool) → t i j ≡ after_one R mode fixed (t i j) (cond b None None)
        by true = refl
        by false = refl
    after-row t to k (v ∷ vs) i j = after-row (with_cell R mode fixed t to k v) to (k + 1) vs i j ∙ by (eqb to i) (eqb k j) refl refl
      where
        by : (b c : Bool) → eqb to i ≡ b → eqb k j ≡ c
            → after_one R mode fixed (cond (b && c) (after_one R mode fixed (t to k) (Some v)) (t i j)) (cond b (in_column (k + 1) vs j) None)
            ≡ after_one R mode fixed (t i j) (cond b (cond c (Some v) (in_column (k + 1) vs j)) None)
        by false c p q = refl
        by true false p q = refl
        by true true p q =
            let row : to ≡ i = eqb-true to i p in
            let col : k ≡ j = eqb-true k j q in
            ap (λ o. after_one R mode fixed (after_one R mode fixed (t to k) (Some v)) o) (in_column-before (k + 1) vs j (omega (arith, col)))
            ∙ (λ s. after_one R mode fixed (t (row s) (col s)) (Some v))

    -- after rows came, each for a position of its own
    pub after-rows : (t : Table S) (rs : List (List S)) (tos : List ℕ) (i j : ℕ) → AreDistinct tos
        → with_cells R mode fixed t (rows_cells rs tos) i j ≡ after_one R mode fixed (t i j) (came rs tos i j)
    after-rows t [] tos i j d = refl
    after-rows t (r ∷ rs) [] i j d = refl
    after-rows t (r ∷ rs) (to ∷ tos) i j d =
        ap (λ (u : Table S). u i j) (fold-append (λ u cell. with_cell R mode fixed u cell.row cell.col cell.value) t (row_cells to 0 r) (rows_cells rs tos))
        ∙ after-rows (with_cells R mode fixed t (row_cells to 0 r)) rs tos i j d.1
        ∙ ap (λ o. after_one R mode fixed o (came rs tos i j)) (after-row t to 0 r i j)
        ∙ by (eqb to i) refl
      where
        by : (b : Bool) → eqb to i ≡ b
            → after_one R mode fixed (after_one R mode fixed (t i j) (cond b (in_column 0 r j) None)) (came rs tos i j)
            ≡ after_one R mode fixed (t i j) (cond b (in_column 0 r j) (came rs tos i j))
        by false p = refl
        by true p =
            let row : to ≡ i = eqb-true to i p in
            ap (λ o. after_one R mode fixed (after_one R mode fixed (t i j) (in_column 0 r j)) o)
            (came-absent rs tos i j (ap (λ n. stands n tos) (sym row) ∙ d.0))

    -- a fixed cell that is absent stays absent
    pub stays-absent : (came : Option S) → fixed ≡ true → after_one R mode fixed None came ≡ None
    stays-absent None e = refl
    stays-absent (Some s) e = ap (λ f. after_one R mode f None (Some s)) e ∙ of mode
      where
        of : (m : Mode) → after_one R m true None (Some s) ≡ None
        of Insert = refl
        of Replace = refl
        of Add = refl
        of AbsMax = refl
        of Zero = refl

  -- the rows are taken
  row-taken : (takes : ℕ → ℕ → Bool) (to k w : ℕ) (vs : List S) → ((j : ℕ) → j < w → takes to j ≡ true) → k + length vs ≤ w
      → list_all (λ c. takes c.row c.col) (row_cells to k vs) ≡ true
  row-taken takes to k w [] h l = refl
  row-taken takes to k w (v ∷ vs) h l =
      ap (λ b. b && list_all (λ (c : Cell S). takes c.row c.col) (row_cells to (k + 1) vs)) (h k (omega (arith, l)))
      ∙ row-taken takes to (k + 1) w vs h (omega (arith, l))

  all-both : (p : Cell S → Bool) (xs ys : List (Cell S)) → list_all p xs ≡ true → list_all p ys ≡ true → list_all p (xs ++ ys) ≡ true
  all-both p [] ys e f = f
  all-both p (x ∷ xs) ys e f = by (p x) (λ h. all-both p xs ys h f) e
    where
      by : (a : Bool) → (list_all p xs ≡ true → list_all p (xs ++ ys) ≡ true) → (a && list_all p xs) ≡ true → (a && list_all p (xs ++ ys)) ≡ true
      by true rest h = rest h
      by false rest h = absurd (cc)

  pub rows-taken : (v : VectorState S) (rs : List (List S)) (tos : List ℕ) → HaveLength v.columns rs → AreBelow (length v.map) tos
      → list_all (λ c. has_cell v c.row c.col) (rows_cells rs tos) ≡ true
  rows-taken v [] tos h b = refl
  rows-taken v (r ∷ rs) [] h b = refl
  rows-taken v (r ∷ rs) (to ∷ tos) h b =
      all-both (λ c. has_cell v c.row c.col) (row_cells to 0 r) (rows_cells rs tos)
      (row-taken (has_cell v) to 0 v.columns r (λ j l. has-cell v to j b.0 l) (omega (arith, h.0)))
      (rows-taken v rs tos h.1 b.1)

  -- the cells of an entry in the columns from 0 on
  pub entry-cells : (to k w : ℕ) (r : List S) → length r ≡ w → map (placed to) (zip (count_from k w) r) ≡ row_cells to k r
  entry-cells to k zero [] e = refl
  entry-cells to k zero (v ∷ vs) e = absurd (omega (arith, e))
  entry-cells to k (suc w) [] e = absurd (omega (arith, e))
  entry-cells to k (suc w) (v ∷ vs) e = ap (λ z. record { row = to; col = k; value = v } ∷ z) (entry-cells to (k + 1) w vs (omega (arith, e)))

  pub length-row : (v : VectorState S) (l : ℕ) → IsVector v → l < length v.map → length (row_numbers v l) ≡ v.columns
  length-row v l is low = length-take_most v.columns (drop (l * v.columns) v.values) (length-drop_most (l * v.columns) v.columns v.values (row-within v l is low))

  pub rows-length : (v : VectorState S) (froms : List ℕ) → IsVector v → AreBelow (length v.map) froms → HaveLength v.columns (map (row_numbers v) froms)
  rows-length v [] is b = tt
  rows-length v (f ∷ fs) is b = (length-row v f is b.0, rows-length v fs is b.1)

  -- the cells of rows that move
  pub moved-rows : (v : VectorState S) (froms tos : List ℕ) → IsVector v → AreBelow (length v.map) froms
      → moved_cells (vector_entries v) (zip froms tos) ≡ rows_cells (map (row_numbers v) froms) tos
  moved-rows v [] tos is b = refl
  moved-rows v (f ∷ fs) [] is b = refl
  moved-rows v (f ∷ fs) (t ∷ ts) is b =
      (λ s. one s ++ moved-rows v fs ts is b.1 s)
    where
      one : cells_for t (entry_at (vector_entries v) f) ≡ row_cells t 0 (row_numbers v f)
      one =
          ap (cells_for t) (entry_at-numbered v.columns v.map v.values f b.0)
          ∙ entry-cells t 0 v.columns (row_numbers v f) (length-row v f is b.0)

  -- a number of a row by its global index
  row-number : (x : VectorState S) (f g j : ℕ) → AreDistinct x.map → f < length x.map → index_at x.map f ≡ g → in_column 0 (row_numbers x f) j ≡ by_index x g j
  row-number x f g j d low e =
      in_column-is 0 (row_numbers x f) j j (omega arith)
      ∙ by (ltb j x.columns) refl
      ∙ sym (ap (λ o. option_and_then (λ l. vector_table x l j) o) (local_index-from x.map g f d (slice_get-get_or x.map f 0 low ∙ ap Some e)))
    where
      by : (b : Bool) → ltb j x.columns ≡ b → slice_get (row_numbers x f) j ≡ vector_table x f j
      by true p =
          let l : j < x.columns = ltb-true j x.columns p in
          slice_get-take x.columns j (drop (f * x.columns) x.values) l
          ∙ slice_get-drop (f * x.columns) j x.values
          ∙ sym (ap (λ b. cond b (slice_get x.values (f * x.columns + j)) None) (has-cell x f j low l))
      by false p =
          beyond (row_numbers x f) j (omega (arith, length-take_few x.columns (drop (f * x.columns) x.values), above j x.columns p))
          ∙ sym (ap (λ b. cond (ltb f (length x.map) && b) (slice_get x.values (f * x.columns + j)) None) p ∙ off (ltb f (length x.map)))
        where
          off : (b : Bool) → cond (b && false) (slice_get x.values (f * x.columns + j)) None ≡ None
          off true = refl
          off false = refl

          above : (m n : ℕ) → ltb m n ≡ false → n ≤ m
          above m n e = grind (arith, e)

          beyond : (xs : List S) (n : ℕ) → length xs ≤ n → slice_get xs n ≡ None
          beyond [] n l = refl
          beyond (x ∷ xs) zero l = absurd (omega (arith, l))
          beyond (x ∷ xs) (suc n) l = beyond xs n (omega (arith, l))

  -- what comes for a position is what the source has at its global index
  pub came-by_index : (x y : VectorState S) (froms tos : List ℕ) (g l j : ℕ) → AreDistinct x.map → AreDistinct y.map
      → AreBelow (length x.map) froms → AreBelow (length y.map) tos → indices_at x.map froms ≡ indices_at y.map tos
      → local_index y.map g ≡ Some l → came (map (row_numbers x) froms) tos l j ≡ rows_of x (indices_at x.map froms) g j
  came-by_index x y [] tos g l j dx dy bx by_y e here = refl
  came-by_index x y (f ∷ fs) [] g l j dx dy bx by_y e here = absurd (let n = ap length e in omega (arith, n))
  came-by_index x y (f ∷ fs) (t ∷ ts) g l j dx dy bx by_y e here = by (eqb t l) refl (came-by_index x y fs ts g l j dx dy bx.1 by_y.1 (ap (drop 1) e) here)
    where
      same : index_at x.map f ≡ index_at y.map t
      same = ap (λ zs. get_or zs 0 0) e

      there : global_index y.map l ≡ Some g
      there = global_index-from y.map g l here

      by : (b : Bool) → eqb t l ≡ b → came (map (row_numbers x) fs) ts l j ≡ cond (stands g (indices_at x.map fs)) (by_index x g j) None
          → cond b (in_column 0 (row_numbers x f) j) (came (map (row_numbers x) fs) ts l j)
          ≡ cond (eqb (index_at x.map f) g || stands g (indices_at x.map fs)) (by_index x g j) None
      by true p rest =
          let row : t ≡ l = eqb-true t l p in
          let index : index_at x.map f ≡ g = same ∙ ap (index_at y.map) row ∙ get_or_from_slice_get y.map l g 0 there in
          row-number x f g j dx bx.0 index
          ∙ sym (ap (λ b. cond (b || stands g (indices_at x.map fs)) (by_index x g j) None) (eq-eqb (index_at x.map f) g index))
      by false p rest =
          let other : eqb (index_at x.map f) g ≡ false = ne_eqb (index_at x.map f) g (λ index.
          let place : Some t ≡ Some l = sym (local_index-from y.map g t dy (slice_get-get_or y.map t 0 by_y.0 ∙ ap Some (sym same ∙ index))) ∙ here in
          eqb-false t l p (same_Some t l place)) in
          rest
          ∙ sym (ap (λ b. cond (b || stands g (indices_at x.map fs)) (by_index x g j) None) other)

  -- the target by global index, after the rows came
  pub moved-table : (R : Semiring S) (mode : Mode) (x y new : VectorState S) (froms tos : List ℕ) → AreDistinct x.map → AreDistinct y.map
      → AreBelow (length x.map) froms → AreBelow (length y.map) tos → indices_at x.map froms ≡ indices_at y.map tos → AreDistinct tos
      → new.map ≡ y.map → vector_table new ≡ with_cells R mode true (vector_table y) (rows_cells (map (row_numbers x) froms) tos)
      → by_index new ≡ gathered R mode true (by_index y) (rows_of x (indices_at x.map froms) ∷ [])
  moved-table R mode x y new froms tos dx dy bx by_y e once same h = λ s g j. at g j s
    where
      at : (g j : ℕ) → by_index new g j ≡ after_one R mode true (by_index y g j) (rows_of x (indices_at x.map froms) g j)
      at g j = go (local_index y.map g) refl
        where
          go : (o : Option ℕ) → local_index y.map g ≡ o → by_index new g j ≡ after_one R mode true (by_index y g j) (rows_of x (indices_at x.map froms) g j)
          go None p =
              ap (λ o. option_and_then (λ l. vector_table new l j) o) (ap (λ m. local_index m g) same ∙ p)
              ∙ sym (ap (λ o. after_one R mode true (option_and_then (λ l. vector_table y l j) o) (rows_of x (indices_at x.map froms) g j)) p
              ∙ stays-absent R mode true (rows_of x (indices_at x.map froms) g j) refl)
          go (Some l) p =
              ap (λ o. option_and_then (λ l. vector_table new l j) o) (ap (λ m. local_index m g) same ∙ p)
              ∙ ap (λ (t : Table S). t l j) h
              ∙ after-rows R mode true (vector_table y) (map (row_numbers x) froms) tos l j once
              ∙ ap (after_one R mode true (vector_table y l j)) (came-by_index x y froms tos g l j dx dy bx by_y e p)
              ∙ sym (ap (λ o. after_one R mode true (option_and_then (λ l. vector_table y l j) o) (rows_of x (indices_at x.map froms) g j)) p)

module _ {S : Type 0} (R : Semiring S) (mode : Mode) where
  -- the same once more
  gathered-more : (old came : Table S) (n : ℕ) → gathered R mode true old (replicate (suc n) came) ≡ gathered R mode true (gathered R mode true old (replicate n came)) (came ∷ [])
  gathered-more old came zero = refl
  gathered-more old came (suc n) = gathered-more (λ i j. after_one R mode true (old i j) (came i j)) came n

  pub one-more : (first now new came : Table S) (n : ℕ) → now ≡ gathered R mode true first (replicate n came) → new ≡ gathered R mode true now (came ∷ [])
      → new ≡ gathered R mode true first (replicate (n + 1) came)
  one-more first now new came n h g =
      g
      ∙ ap (λ t. gathered R mode true t (came ∷ [])) h
      ∙ sym (ap (λ k. gathered R mode true first (replicate k came)) (add-one n) ∙ gathered-more first came n)

-- a vector that has the same numbers
pub same-by_index : {S : Type 0} (new y : VectorState S) → new.map ≡ y.map → vector_table new ≡ vector_table y → by_index new ≡ by_index y
same-by_index new y same h = λ t g j. option_and_then (λ l. h t l j) (local_index (same t) g)
