-- The cells of a vector combined with those of another one, row after row.
use Rattle.std.proofs.Common.{◌≡◌, ℕ, ◌+◌, ◌*◌, ◌<◌, ◌≤◌, inl, inr, Bool, true, false, cond, ◌&&◌, eqb, ltb, length, Option, None, Some, refl, sym, ap, ◌∙◌, arith}
use Rattle.std.specs.Prelude.{slice_get}
use Rattle.std.proofs.lemmas.Bool.{cases_lt, eq-eqb, ne_eqb, ltb-true}
use Rattle.scalar_laws.specs.Semiring.{Semiring}
use Rattle.tables.specs.Tables.{Table, with_place}
use Rattle.map_core.specs.Layouts.{local_index}
use Rattle.combine_modes.specs.Modes.{after_one}
use Rattle.combine_modes.specs.declared.mode.Mode.{Mode}
use Rattle.multivector.specs.Vectors.{VectorState, vector_table}
use Rattle.rank_transfers.specs.Arrivals.{after_table}
use Rattle.rank_values.specs.Vectors.{global_table}
use Rattle.rank_values.proofs.Globals.{global-at, global-none}

-- beyond the rows and the columns of a vector there is nothing
pub past-columns : {S : Type 0} (v : VectorState S) (i j : ℕ) → v.columns ≤ j → vector_table v i j ≡ None
past-columns v i j far = by (ltb j v.columns) refl
  where
    off : (b : Bool) → cond (b && false) (slice_get v.values (i * v.columns + j)) None ≡ None
    off true = refl
    off false = refl

    by : (b : Bool) → ltb j v.columns ≡ b → vector_table v i j ≡ None
    by true e = absurd (let low = ltb-true j v.columns e in omega arith)
    by false e = ap (λ b. cond (ltb i (length v.map) && b) (slice_get v.values (i * v.columns + j)) None) e ∙ off (ltb i (length v.map))

pub past-rows : {S : Type 0} (v : VectorState S) (i j : ℕ) → length v.map ≤ i → vector_table v i j ≡ None
past-rows v i j far = by (ltb i (length v.map)) refl
  where
    by : (b : Bool) → ltb i (length v.map) ≡ b → vector_table v i j ≡ None
    by true e = absurd (let low = ltb-true i (length v.map) e in omega arith)
    by false e = ap (λ b. cond (b && ltb j v.columns) (slice_get v.values (i * v.columns + j)) None) e

module _ {S : Type 0} (R : Semiring S) (mode : Mode) (old x : Table S) where
  -- The first columns of a row were combined, and no other cell changed.
  pub record IsRowSoFar (lid columns : ℕ) (now : Table S) : Type 0 where
    pub done : (j : ℕ) → j < columns → now lid j ≡ after_one R mode true (old lid j) (x lid j)
    pub rest : (j : ℕ) → columns ≤ j → now lid j ≡ old lid j
    pub others : (i j : ℕ) → (i ≡ lid → ⊥) → now i j ≡ old i j

  pub row-more : (lid col : ℕ) (now new : Table S) (value : S) → IsRowSoFar lid col now → Some value ≡ after_one R mode true (now lid col) (x lid col)
      → new ≡ with_place now lid col (Some value) → IsRowSoFar lid (col + 1) new
  row-more lid col now new value is combined set = record {
    done = λ j l. elim (cases_lt j col) [
      | inl low ↦ at lid j ∙ ap (λ b. cond (eqb lid lid && b) (Some value) (now lid j)) (ne_eqb col j (λ e. omega (arith, low, e))) ∙ off (eqb lid lid) (now lid j) ∙ is.done j low
      | inr high ↦
          let same : col ≡ j = omega (arith, l, high) in
          at lid j
          ∙ ap (λ b. cond (b && eqb col j) (Some value) (now lid j)) (eq-eqb lid lid refl)
          ∙ ap (λ b. cond (true && b) (Some value) (now lid j)) (eq-eqb col j same)
          ∙ combined
          ∙ ap (λ o. after_one R mode true o (x lid col)) (is.rest col (omega arith))
          ∙ ap (λ n. after_one R mode true (old lid n) (x lid n)) same
    ];
    rest = λ j l. at lid j ∙ ap (λ b. cond (eqb lid lid && b) (Some value) (now lid j)) (ne_eqb col j (λ e. omega (arith, l, e))) ∙ off (eqb lid lid) (now lid j) ∙ is.rest j (omega (arith, l));
    others = λ i j other. at i j ∙ ap (λ b. cond (b && eqb col j) (Some value) (now i j)) (ne_eqb lid i (λ e. other (sym e))) ∙ is.others i j other;
  }
    where
      at : (i j : ℕ) → new i j ≡ cond (eqb lid i && eqb col j) (Some value) (now i j)
      at i j = ap (λ t. t i j) set

      off : (b : Bool) (o : Option S) → cond (b && false) (Some value) o ≡ o
      off true o = refl
      off false o = refl

  -- The first rows were combined, and no other row changed.
  pub record AreRowsSoFar (rows : ℕ) (now : Table S) : Type 0 where
    pub done : (i j : ℕ) → i < rows → now i j ≡ after_one R mode true (old i j) (x i j)
    pub rest : (i j : ℕ) → rows ≤ i → now i j ≡ old i j

  pub rows-more : (lid : ℕ) (now new : Table S) → AreRowsSoFar lid now → ((j : ℕ) → new lid j ≡ after_one R mode true (now lid j) (x lid j))
      → ((i j : ℕ) → (i ≡ lid → ⊥) → new i j ≡ now i j) → AreRowsSoFar (lid + 1) new
  rows-more lid now new is row others = record {
    done = λ i j l. elim (cases_lt i lid) [
      | inl low ↦ others i j (λ e. omega (arith, low, e)) ∙ is.done i j low
      | inr high ↦
          let same : lid ≡ i = omega (arith, l, high) in
          ap (λ n. new n j) (sym same) ∙ row j ∙ ap (λ o. after_one R mode true o (x lid j)) (is.rest lid j (omega arith)) ∙ ap (λ n. after_one R mode true (old n j) (x n j)) same
    ];
    rest = λ i j l. others i j (λ e. omega (arith, l, e)) ∙ is.rest i j (omega (arith, l));
  }

  pub row-done : (lid columns : ℕ) (now : Table S) → IsRowSoFar lid columns now → ((j : ℕ) → columns ≤ j → x lid j ≡ None) → (j : ℕ) → now lid j ≡ after_one R mode true (old lid j) (x lid j)
  row-done lid columns now is none j = elim (cases_lt j columns) [
    | inl low ↦ is.done j low
    | inr high ↦ is.rest j high ∙ sym (ap (after_one R mode true (old lid j)) (none j high))
  ]

  pub rows-done : (rows : ℕ) (now : Table S) → AreRowsSoFar rows now → ((i j : ℕ) → rows ≤ i → x i j ≡ None) → (i j : ℕ) → now i j ≡ after_one R mode true (old i j) (x i j)
  rows-done rows now is none i j = elim (cases_lt i rows) [
    | inl low ↦ is.done i j low
    | inr high ↦ is.rest i j high ∙ sym (ap (after_one R mode true (old i j)) (none i j high))
  ]

-- cells that are combined by their places are combined by global index
pub global-combined : {S : Type 0} (R : Semiring S) (mode : Mode) (x y v : VectorState S) → x.map ≡ y.map → v.map ≡ y.map
    → ((i j : ℕ) → vector_table v i j ≡ after_one R mode true (vector_table y i j) (vector_table x i j))
    → global_table v ≡ after_table R mode (global_table y) (global_table x)
global-combined R mode x y v same kept cells = λ t i j. at i j t
  where
    at : (i j : ℕ) → global_table v i j ≡ after_one R mode true (global_table y i j) (global_table x i j)
    at i j = go (local_index y.map i) refl
      where
        go : (o : Option ℕ) → local_index y.map i ≡ o → global_table v i j ≡ after_one R mode true (global_table y i j) (global_table x i j)
        go None e =
            global-none v i j (ap (λ m. local_index m i) kept ∙ e)
            ∙ sym (λ t. after_one R mode true (global-none y i j e t) (global-none x i j (ap (λ m. local_index m i) same ∙ e) t))
        go (Some l) e =
            global-at v i j l (ap (λ m. local_index m i) kept ∙ e)
            ∙ cells l j
            ∙ sym (λ t. after_one R mode true (global-at y i j l e t) (global-at x i j l (ap (λ m. local_index m i) same ∙ e) t))
