-- Vectors by global indices.
use Rattle.std.proofs.Common.{◌≡◌, ℕ, ◌+◌, ◌*◌, ◌<◌, ◌≤◌, Bool, true, false, ◌&&◌, cond, ltb, eqb, nat_lt, List, [], length, get_or, replicate, Result, Ok, Err, IfOk, Option, None, Some, inl, inr, refl, sym, ap, ◌∙◌, arith}
use Rattle.std.specs.Prelude.{slice_get, is_some}
use Rattle.std.specs.Option.{option_and_then, option_map, unwrap_or}
use Rattle.std.proofs.lemmas.Bool.{cases_Bool, eqb-true, eq-eqb, ltb-true, lt-ltb}
use Rattle.std.proofs.lemmas.Bool.Decides.{nat_tests}
use Rattle.std.proofs.lemmas.List.{length-replicate, get_or-replicate}
use Rattle.std.proofs.lemmas.Nat.{mul-add-lt}
use Rattle.std.proofs.lemmas.Option.{get_or_from_slice_get, slice_get-get_or, slice_get_within, same_Some}
use Rattle.scalar_laws.specs.Semiring.{Semiring, IsSemiring}
use Rattle.tables.specs.Sums.{both_or_one}
use Rattle.tables.specs.Tables.{Table, with_place}
use Rattle.tables.specs.Indices.{stands}
use Rattle.map_core.specs.Classes.{place}
use Rattle.map_core.specs.Layouts.{local_index}
use Rattle.map_core.proofs.Accepted.{placed}
use Rattle.map_core.proofs.Members.{stands-list_any}
use Rattle.map_core.proofs.Places.{global_index-from, local_index-absent}
use Rattle.std.proofs.lemmas.List.Folds.{list_any_at}
use Rattle.std.proofs.lemmas.List.Quantifiers.{position-Some}
use Rattle.model_defs.specs.Operations.{combination, scaled}
use Rattle.multivector.specs.Vectors.{VectorState, vector_table, has_cell, combination as local_combination}
use Rattle.multivector.proofs.Cells.{has-cell}
use Rattle.scalar_laws.specs.Conversions.{Conversions}
use Rattle.rank_values.specs.Vectors.{global_table, lines_on}

-- what has a local index stands in the list
pub some_stands : (xs : List ℕ) (g l : ℕ) → local_index xs g ≡ Some l → stands g xs ≡ true
some_stands xs g l e =
    let place = position-Some (λ y. eqb g y) xs l 0 e in
    sym (stands-list_any g xs) ∙ list_any_at (λ y. eqb g y) xs l 0 place.0 place.1

-- what has none does not
pub none_stands : (xs : List ℕ) (g : ℕ) → local_index xs g ≡ None → stands g xs ≡ false
none_stands xs g none = elim (cases_Bool (stands g xs)) [
  | inl on ↦
      let low = (placed xs g on).within in
      let there : nat_lt (place xs g) (length xs) ≡ true = grind (arith, nat_tests) in
      let some : local_index xs g ≡ Some (place xs g) = ap (λ b. cond b (Some (place xs g)) None) there in
      absurd (cc)
  | inr off ↦ off
]

-- two indices at one place are one
pub same_index : (xs : List ℕ) (a b l : ℕ) → local_index xs a ≡ Some l → local_index xs b ≡ Some l → a ≡ b
same_index xs a b l p q = same_Some a b (sym (global_index-from xs a l p) ∙ global_index-from xs b l q)

module _ {S : Type 0} where
  -- a cell of a vector by its global index
  pub global-at : (v : VectorState S) (i j l : ℕ) → local_index v.map i ≡ Some l → global_table v i j ≡ vector_table v l j
  global-at v i j l e = ap (λ o. option_and_then (λ k. vector_table v k j) o) e

  pub global-none : (v : VectorState S) (i j : ℕ) → local_index v.map i ≡ None → global_table v i j ≡ None
  global-none v i j e = ap (λ o. option_and_then (λ k. vector_table v k j) o) e

  -- another number at one cell
  pub global-set : (v w : VectorState S) (g lid col : ℕ) (x : S) → local_index v.map g ≡ Some lid → w.map ≡ v.map
      → vector_table w ≡ with_place (vector_table v) lid col (Some x) → global_table w ≡ with_place (global_table v) g col (Some x)
  global-set v w g lid col x there same set = λ t i j. at i j t
    where
      at : (i j : ℕ) → global_table w i j ≡ with_place (global_table v) g col (Some x) i j
      at i j = go (local_index v.map i) refl
        where
          go : (o : Option ℕ) → local_index v.map i ≡ o → global_table w i j ≡ cond (eqb g i && eqb col j) (Some x) (global_table v i j)
          go None e =
              let other : eqb g i ≡ false = elim (cases_Bool (eqb g i)) [
                | inl on ↦
                    let one : g ≡ i = eqb-true g i on in
                    let bad : local_index v.map i ≡ Some lid = ap (local_index v.map) (sym one) ∙ there in
                    absurd (cc)
                | inr off ↦ off
              ] in
              global-none w i j (ap (λ m. local_index m i) same ∙ e)
              ∙ sym (ap (λ b. cond (b && eqb col j) (Some x) (global_table v i j)) other ∙ global-none v i j e)
          go (Some l) e =
              global-at w i j l (ap (λ m. local_index m i) same ∙ e)
              ∙ ap (λ t. t l j) set
              ∙ (λ t. cond (test t && eqb col j) (Some x) (sym (global-at v i j l e) t))
            where
              test : eqb lid l ≡ eqb g i
              test = elim (cases_Bool (eqb g i)) [
                | inl on ↦
                    let one : g ≡ i = eqb-true g i on in
                    let place : lid ≡ l = same_Some lid l (sym there ∙ ap (local_index v.map) one ∙ e) in
                    eq-eqb lid l place ∙ sym on
                | inr off ↦ elim (cases_Bool (eqb lid l)) [
                  | inl on ↦
                      let place : lid ≡ l = eqb-true lid l on in
                      let one : g ≡ i = same_index v.map g i l (there ∙ ap (λ k. Some k) place) e in
                      let bad : eqb g i ≡ true = eq-eqb g i one in
                      absurd (cc)
                  | inr apart ↦ apart ∙ sym off
                ]
              ]

  -- a vector that has one number in each cell
  pub global-filled : (list : List ℕ) (columns : ℕ) (x : S) (i j : ℕ)
      → global_table (record { map = list; columns = columns; values = replicate (length list * columns) x }) i j
      ≡ cond (stands i list && ltb j columns) (Some x) None
  global-filled list columns x i j = go (local_index list i) refl
    where
      whole : VectorState S
      whole = record { map = list; columns = columns; values = replicate (length list * columns) x }

      cell : (l : ℕ) → l < length list → (b : Bool) → ltb j columns ≡ b → vector_table whole l j ≡ cond b (Some x) None
      cell l low true e =
          let col : j < columns = ltb-true j columns e in
          let place : l * columns + j < length (replicate (length list * columns) x) = omega (arith, length-replicate (length list * columns) x, mul-add-lt l columns j (length list) low col) in
          ap (λ b. cond b (slice_get whole.values (l * columns + j)) None) (has-cell whole l j low col)
          ∙ slice_get-get_or whole.values (l * columns + j) x place
          ∙ ap (λ y. Some y) (get_or-replicate (length list * columns) (l * columns + j) x x (omega (arith, mul-add-lt l columns j (length list) low col)))
      cell l low false e = ap (λ b. cond (ltb l (length list) && b) (slice_get whole.values (l * columns + j)) None) e ∙ off (ltb l (length list))
        where
          off : (b : Bool) → cond (b && false) (slice_get whole.values (l * columns + j)) None ≡ None
          off true = refl
          off false = refl

      go : (o : Option ℕ) → local_index list i ≡ o → global_table whole i j ≡ cond (stands i list && ltb j columns) (Some x) None
      go None e =
          global-none whole i j e ∙ sym (ap (λ b. cond (b && ltb j columns) (Some x) None) (none_stands list i e))
      go (Some l) e =
          global-at whole i j l e ∙ cell l (slice_get_within list l i (global_index-from list i l e)) (ltb j columns) refl
          ∙ sym (ap (λ b. cond (b && ltb j columns) (Some x) None) (some_stands list i l e))

-- with nought in each cell it is the table of no lines
pub global-nought : {S : Type 0} (R : Semiring S) (F : Conversions S) (list : List ℕ) (columns : ℕ) (zero : S) → zero ≡ R.nought
    → global_table (record { map = list; columns = columns; values = replicate (length list * columns) zero }) ≡ lines_on R F list columns []
global-nought R F list columns zero none = λ t i j. (global-filled list columns zero i j ∙ ap (λ x. cond (stands i list && ltb j columns) (Some x) None) none) t

module _ {S : Type 0} {R : Semiring S} (L : IsSemiring R) where
  -- sums cell by cell are those by global index
  pub global-combined : (alpha beta : S) (x y v : VectorState S) → x.map ≡ y.map → v.map ≡ y.map
      → vector_table v ≡ local_combination R alpha (vector_table x) beta (vector_table y)
      → global_table v ≡ combination R alpha (global_table x) beta (global_table y)
  global-combined alpha beta x y v same kept sums = λ t i j. at i j t
    where
      at : (i j : ℕ) → global_table v i j ≡ combination R alpha (global_table x) beta (global_table y) i j
      at i j = go (local_index y.map i) refl
        where
          go : (o : Option ℕ) → local_index y.map i ≡ o → global_table v i j ≡ both_or_one R.plus (option_map (R.times alpha) (global_table x i j)) (option_map (R.times beta) (global_table y i j))
          go None e =
              global-none v i j (ap (λ m. local_index m i) kept ∙ e)
              ∙ sym (λ t. both_or_one R.plus (option_map (R.times alpha) (global-none x i j (ap (λ m. local_index m i) same ∙ e) t)) (option_map (R.times beta) (global-none y i j e t)))
          go (Some l) e =
              global-at v i j l (ap (λ m. local_index m i) kept ∙ e)
              ∙ ap (λ t. t l j) sums
              ∙ sym (λ t. both_or_one R.plus (option_map (R.times alpha) (global-at x i j l (ap (λ m. local_index m i) same ∙ e) t)) (option_map (R.times beta) (global-at y i j l e t)))

  -- a sum with nought times itself is a scaled table
  pub combination-nought : (alpha : S) (t : Table S) → combination R alpha t R.nought t ≡ scaled R alpha t
  combination-nought alpha t = λ k i j. at (t i j) k
    where
      at : (o : Option S) → both_or_one R.plus (option_map (R.times alpha) o) (option_map (R.times R.nought) o) ≡ option_map (R.times alpha) o
      at None = refl
      at (Some a) = ap (λ x. Some x) (ap (R.plus (R.times alpha a)) (L.times_nought a) ∙ L.plus_comm (R.times alpha a) R.nought ∙ L.plus_nought (R.times alpha a))

  pub scaled-clause : {E : Type 0} (alpha zero : S) (x : VectorState S) (r : Result (VectorState S) E) → zero ≡ R.nought
      → IfOk r (λ v. global_table v ≡ combination R alpha (global_table x) zero (global_table x)) → IfOk r (λ v. global_table v ≡ scaled R alpha (global_table x))
  scaled-clause alpha zero x (Ok v) none e = e ∙ ap (λ z. combination R alpha (global_table x) z (global_table x)) none ∙ combination-nought alpha (global_table x)
  scaled-clause alpha zero x (Err f) none e = tt
