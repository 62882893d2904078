-- The cells of a vector, listed row after row.
use Rattle.std.proofs.Common.{◌≡◌, ℕ, zero, suc, ◌+◌, ◌*◌, ◌<◌, ◌≤◌, ◌⊎◌, Bool, true, false, ◌&&◌, cond, ltb, eqb, List, [], ◌∷◌, ◌++◌, length, get_or, Option, None, Some, inl, inr, refl, sym, ap, ◌∙◌, arith, append-nil}
use Rattle.std.specs.List.{flat_map}
use Rattle.std.specs.Prelude.{slice_get}
use Rattle.std.specs.Option.{option_and_then}
use Rattle.std.proofs.lemmas.Bool.{cases_Bool, cases_eq, cases_lt, eqb-true, eq-eqb, ne_eqb, lt-ltb, le-ltb}
use Rattle.std.proofs.lemmas.List.Concat.{flat_map-append}
use Rattle.std.proofs.lemmas.Option.{slice_get-get_or, slice_get_within, get_or_from_slice_get, same_Some}
use Rattle.scalar_laws.specs.Semiring.{Semiring, IsSemiring}
use Rattle.tables.specs.declared.Cell.{Cell}
use Rattle.tables.specs.Indices.{count_from, AreDistinct}
use Rattle.tables.specs.Sums.{both_or_one}
use Rattle.tables.specs.Tables.{Table, cell_if, table_of}
use Rattle.tables.proofs.Counting.{count_from-append}
use Rattle.tables.proofs.Tables.{table_of-append}
use Rattle.map_core.specs.Layouts.{local_index}
use Rattle.map_core.proofs.Places.{global_index-from, local_index-from}
use Rattle.multivector.specs.Vectors.{VectorState, vector_table, has_cell}
use Rattle.rank_values.specs.Vectors.{global_table}
use Rattle.rank_values.specs.Rows.{row_of, rows_of}
use Rattle.rank_values.proofs.Globals.{global-at, global-none}

-- one more of a count
pub count-push : {A : Type 0} (f : ℕ → List A) (n : ℕ) → flat_map f (count_from 0 (n + 1)) ≡ flat_map f (count_from 0 n) ++ f n
count-push f n =
    ap (flat_map f) (count_from-append 0 n 1)
    ∙ (λ t. flat_map f (count_from 0 n ++ count_from (start t) 1))
    ∙ flat_map-append f (count_from 0 n) (n ∷ [])
    ∙ ap (λ xs. flat_map f (count_from 0 n) ++ xs) (append-nil (f n))
  where
    start : 0 + n ≡ n
    start = omega arith

module _ {S : Type 0} {R : Semiring S} (L : IsSemiring R) where
  right-none : (o : Option S) → both_or_one R.plus o None ≡ o
  right-none None = refl
  right-none (Some a) = refl

  -- one cell
  one-cell : (g n : ℕ) (o : Option S) (i k : ℕ) → table_of R (cell_if g n o) i k ≡ cond (eqb g i && eqb n k) o None
  one-cell g n None i k = go (eqb g i && eqb n k)
    where
      go : (b : Bool) → (let none : Option S = None in none ≡ cond b None None)
      go true = refl
      go false = refl
  one-cell g n (Some v) i k = right-none (cond (eqb g i && eqb n k) (Some v) None)

  -- the cells of a row
  row-cells : (f : ℕ → Option S) (g n i k : ℕ) → table_of R (flat_map (λ j. cell_if g j (f j)) (count_from 0 n)) i k ≡ cond (eqb g i && ltb k n) (f k) None
  row-cells f g zero i k = go (eqb g i) ∙ ap (λ b. cond (eqb g i && b) (f k) None) (sym (le-ltb k 0 (omega arith)))
    where
      go : (b : Bool) → (let none : Option S = None in none ≡ cond (b && false) (f k) None)
      go true = refl
      go false = refl
  row-cells f g (suc n) i k =
      ap (λ m. table_of R (flat_map (λ j. cell_if g j (f j)) (count_from 0 m)) i k) next
      ∙ ap (λ cs. table_of R cs i k) (count-push (λ j. cell_if g j (f j)) n)
      ∙ table_of-append L (flat_map (λ j. cell_if g j (f j)) (count_from 0 n)) (cell_if g n (f n)) i k
      ∙ (λ t. both_or_one R.plus (row-cells f g n i k t) (one-cell g n (f n) i k t))
      ∙ joined (eqb g i)
    where
      next : suc n ≡ n + 1
      next = omega arith

      joined : (b : Bool) → both_or_one R.plus (cond (b && ltb k n) (f k) None) (cond (b && eqb n k) (f n) None) ≡ cond (b && ltb k (suc n)) (f k) None
      joined false = refl
      joined true = elim (cases_lt k n) [
        | inl low ↦
            let a : ltb k n ≡ true = lt-ltb k n low in
            let b : eqb n k ≡ false = ne_eqb n k (λ e. absurd (omega arith)) in
            let c : ltb k (suc n) ≡ true = lt-ltb k (suc n) (omega arith) in
            (λ t. both_or_one R.plus (cond (a t) (f k) None) (cond (b t) (f n) None)) ∙ right-none (f k) ∙ sym (ap (λ x. cond x (f k) None) c)
        | inr high ↦ elim (cases_eq n k) [
          | inl same ↦
              let a : ltb k n ≡ false = le-ltb k n high in
              let b : eqb n k ≡ true = eq-eqb n k same in
              let c : ltb k (suc n) ≡ true = lt-ltb k (suc n) (omega arith) in
              (λ t. both_or_one R.plus (cond (a t) (f k) None) (cond (b t) (f (same t)) None)) ∙ sym (ap (λ x. cond x (f k) None) c)
          | inr other ↦
              let a : ltb k n ≡ false = le-ltb k n high in
              let b : eqb n k ≡ false = ne_eqb n k other in
              let past : suc n ≤ k = later high other in
              let c : ltb k (suc n) ≡ false = le-ltb k (suc n) past in
              (λ t. both_or_one R.plus (cond (a t) (f k) None) (cond (b t) (f n) None)) ∙ sym (ap (λ x. cond x (f k) None) c)
        ]
      ]
        where
          later : n ≤ k → (n ≡ k → ⊥) → suc n ≤ k
          later low apart = elim (cases_lt n k) [ inl l ↦ omega arith | inr h ↦ absurd (apart (omega arith)) ]

  -- a row has its columns alone
  all-columns : (v : VectorState S) (l k : ℕ) (b : Bool) → cond (b && ltb k v.columns) (vector_table v l k) None ≡ cond b (vector_table v l k) None
  all-columns v l k false = refl
  all-columns v l k true = go (ltb k v.columns) refl
    where
      off : (b : Bool) (x : Option S) → cond (b && false) x None ≡ None
      off true x = refl
      off false x = refl

      go : (b : Bool) → ltb k v.columns ≡ b → cond (ltb k v.columns) (vector_table v l k) None ≡ vector_table v l k
      go true e = ap (λ b. cond b (vector_table v l k) None) e
      go false e =
          ap (λ b. cond b (vector_table v l k) None) e
          ∙ sym (ap (λ b. cond (ltb l (length v.map) && b) (slice_get v.values (l * v.columns + k)) None) e ∙ off (ltb l (length v.map)) (slice_get v.values (l * v.columns + k)))

  -- the numbers of the first rows, by global index
  abbrev first_rows : VectorState S → ℕ → Table S
  first_rows v n i j = option_and_then (λ l. cond (ltb l n) (vector_table v l j) None) (local_index v.map i)

  rows-are : (v : VectorState S) (n : ℕ) → AreDistinct v.map → n ≤ length v.map → (i j : ℕ) → table_of R (rows_of v n) i j ≡ first_rows v n i j
  rows-are v zero distinct low i j = go (local_index v.map i)
    where
      go : (o : Option ℕ) → (let none : Option S = None in none ≡ option_and_then (λ l. cond (ltb l 0) (vector_table v l j) None) o)
      go None = refl
      go (Some l) = ap (λ b. cond b (vector_table v l j) None) (sym (le-ltb l 0 (omega arith)))
  rows-are v (suc n) distinct low i j =
      ap (λ m. table_of R (rows_of v m) i j) next
      ∙ ap (λ cs. table_of R cs i j) (count-push (λ l. row_of v l (get_or v.map l 0) v.columns) n)
      ∙ table_of-append L (rows_of v n) (row_of v n g v.columns) i j
      ∙ (λ t. both_or_one R.plus (rows-are v n distinct (omega arith) i j t) ((row-cells (vector_table v n) g v.columns i j ∙ all-columns v n j (eqb g i)) t))
      ∙ go (local_index v.map i) refl
    where
      g : ℕ
      g = get_or v.map n 0

      next : suc n ≡ n + 1
      next = omega arith

      here : local_index v.map g ≡ Some n
      here = local_index-from v.map g n distinct (slice_get-get_or v.map n 0 low)

      go : (o : Option ℕ) → local_index v.map i ≡ o
          → both_or_one R.plus (option_and_then (λ l. cond (ltb l n) (vector_table v l j) None) (local_index v.map i)) (cond (eqb g i) (vector_table v n j) None)
          ≡ option_and_then (λ l. cond (ltb l (suc n)) (vector_table v l j) None) (local_index v.map i)
      go o e = (λ t. both_or_one R.plus (option_and_then (λ l. cond (ltb l n) (vector_table v l j) None) (e t)) (cond (eqb g i) (vector_table v n j) None)) ∙ at o e ∙ sym (ap (λ p. option_and_then (λ l. cond (ltb l (suc n)) (vector_table v l j) None) p) e)
        where
          at : (o : Option ℕ) → local_index v.map i ≡ o
              → both_or_one R.plus (option_and_then (λ l. cond (ltb l n) (vector_table v l j) None) o) (cond (eqb g i) (vector_table v n j) None)
              ≡ option_and_then (λ l. cond (ltb l (suc n)) (vector_table v l j) None) o
          at None e = ap (λ b. both_or_one R.plus None (cond b (vector_table v n j) None)) other
            where
              other : eqb g i ≡ false
              other = elim (cases_Bool (eqb g i)) [
                | inl on ↦ let bad : local_index v.map i ≡ Some n = ap (local_index v.map) (sym (eqb-true g i on)) ∙ here in absurd (cc)
                | inr off ↦ off
              ]
          at (Some l) e = elim (cases_eq l n) [
            | inl same ↦
                let one : g ≡ i = same_Some g i (sym (global_index-from v.map g n here) ∙ global_index-from v.map i n (e ∙ ap (λ m. Some m) same)) in
                let a : ltb l n ≡ false = le-ltb l n (omega (arith, same)) in
                let b : eqb g i ≡ true = eq-eqb g i one in
                let c : ltb l (suc n) ≡ true = lt-ltb l (suc n) (omega (arith, same)) in
                (λ t. both_or_one R.plus (cond (a t) (vector_table v l j) None) (cond (b t) (vector_table v n j) None))
                ∙ sym (ap (λ m. vector_table v m j) same) ∙ sym (ap (λ x. cond x (vector_table v l j) None) c)
            | inr apart ↦
                let b : eqb g i ≡ false = elim (cases_Bool (eqb g i)) [
                  | inl on ↦ absurd (apart (same_Some l n (sym e ∙ ap (local_index v.map) (sym (eqb-true g i on)) ∙ here)))
                  | inr off ↦ off
                ] in
                ap (λ x. both_or_one R.plus (cond (ltb l n) (vector_table v l j) None) (cond x (vector_table v n j) None)) b
                ∙ right-none (cond (ltb l n) (vector_table v l j) None)
                ∙ ap (λ x. cond x (vector_table v l j) None) (still apart)
          ]
            where
              still : (l ≡ n → ⊥) → ltb l n ≡ ltb l (suc n)
              still apart = elim (cases_lt l n) [
                | inl low ↦ lt-ltb l n low ∙ sym (lt-ltb l (suc n) (omega arith))
                | inr high ↦ le-ltb l n high ∙ sym (le-ltb l (suc n) (past high apart))
              ]
                where
                  past : n ≤ l → (l ≡ n → ⊥) → suc n ≤ l
                  past h a = elim (cases_lt n l) [ inl x ↦ omega arith | inr y ↦ absurd (a (omega arith)) ]

  -- all rows
  pub all-rows : (v : VectorState S) → AreDistinct v.map → table_of R (rows_of v (length v.map)) ≡ global_table v
  all-rows v distinct = λ t i j. (rows-are v (length v.map) distinct (omega arith) i j ∙ whole i j (local_index v.map i) refl) t
    where
      whole : (i j : ℕ) (o : Option ℕ) → local_index v.map i ≡ o → first_rows v (length v.map) i j ≡ global_table v i j
      whole i j None e = ap (λ p. option_and_then (λ l. cond (ltb l (length v.map)) (vector_table v l j) None) p) e ∙ sym (global-none v i j e)
      whole i j (Some l) e =
          let low : l < length v.map = slice_get_within v.map l i (global_index-from v.map i l e) in
          ap (λ p. option_and_then (λ k. cond (ltb k (length v.map)) (vector_table v k j) None) p) e
          ∙ ap (λ b. cond b (vector_table v l j) None) (lt-ltb l (length v.map) low) ∙ sym (global-at v i j l e)
