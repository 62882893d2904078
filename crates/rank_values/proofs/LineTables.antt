-- One line more.
use Rattle.std.proofs.Common.{◌≡◌, ℕ, ◌<◌, Bool, true, false, ◌&&◌, cond, ltb, eqb, List, [], ◌∷◌, ◌++◌, Option, None, Some, refl, sym, ap, ◌∙◌, append-nil}
use Rattle.std.specs.List.{flat_map}
use Rattle.std.specs.Option.{unwrap_or}
use Rattle.std.proofs.lemmas.Bool.{eqb-true, lt-ltb}
use Rattle.std.proofs.lemmas.Option.{same_Some}
use Rattle.std.proofs.lemmas.List.Concat.{flat_map-append}
use Rattle.scalar_laws.specs.Semiring.{Semiring, IsSemiring}
use Rattle.scalar_laws.specs.Conversions.{Conversions}
use Rattle.tables.specs.Indices.{stands}
use Rattle.tables.specs.Sums.{both_or_one}
use Rattle.tables.specs.Tables.{Table, table_of, with_place}
use Rattle.tables.proofs.Tables.{table_of-push}
use Rattle.map_core.specs.Layouts.{local_index}
use Rattle.mm_text.specs.declared.file_data.Line.{Line}
use Rattle.mm_text.specs.declared.file_data.Mirror.TheVariants.{Plain}
use Rattle.model_defs.specs.FileMatrix.{entry_numbers, number_of, own_cell, number_cell}
use Rattle.model_defs.specs.Operations.{completed}
use Rattle.multivector.specs.Vectors.{VectorState, vector_table}
use Rattle.rank_values.specs.Vectors.{global_table, lines_on, lines_table}
use Rattle.rank_values.proofs.Globals.{global-at, global-set, some_stands}

both : (a b : Bool) → (a && b) ≡ true → (a ≡ true) × (b ≡ true)
both true b e = (refl, e)
both false b e = absurd (cc)

module _ {S : Type 0} (R : Semiring S) where
  -- a place that is not taken
  pub completed-outside : (rows : ℕ → Bool) (cols : ℕ) (t : Table S) (row col : ℕ) (x : Option S) → (rows row && ltb col cols) ≡ false
      → completed R rows cols (with_place t row col x) ≡ completed R rows cols t
  completed-outside rows cols t row col x off = λ k i j. at i j (eqb row i && eqb col j) refl k
    where
      at : (i j : ℕ) (b : Bool) → (eqb row i && eqb col j) ≡ b
          → cond (rows i && ltb j cols) (Some (unwrap_or (cond (eqb row i && eqb col j) x (t i j)) R.nought)) None ≡ cond (rows i && ltb j cols) (Some (unwrap_or (t i j) R.nought)) None
      at i j true e =
          let h = both (eqb row i) (eqb col j) e in
          let r : row ≡ i = eqb-true row i h.0 in
          let c : col ≡ j = eqb-true col j h.1 in
          let none : (rows i && ltb j cols) ≡ false = sym (λ k. rows (r k) && ltb (c k) cols) ∙ off in
          (λ k. cond (none k) (Some (unwrap_or (cond (eqb row i && eqb col j) x (t i j)) R.nought)) None) ∙ sym (λ k. cond (none k) (Some (unwrap_or (t i j) R.nought)) None)
      at i j false e = ap (λ b. cond (rows i && ltb j cols) (Some (unwrap_or (cond b x (t i j)) R.nought)) None) e

  -- a place that is taken
  pub completed-inside : (rows : ℕ → Bool) (cols : ℕ) (t : Table S) (row col : ℕ) (x : Option S) → (rows row && ltb col cols) ≡ true
      → completed R rows cols (with_place t row col x) ≡ with_place (completed R rows cols t) row col (Some (unwrap_or x R.nought))
  completed-inside rows cols t row col x on = λ k i j. at i j (eqb row i && eqb col j) refl k
    where
      at : (i j : ℕ) (b : Bool) → (eqb row i && eqb col j) ≡ b
          → cond (rows i && ltb j cols) (Some (unwrap_or (cond (eqb row i && eqb col j) x (t i j)) R.nought)) None
          ≡ cond (eqb row i && eqb col j) (Some (unwrap_or x R.nought)) (cond (rows i && ltb j cols) (Some (unwrap_or (t i j) R.nought)) None)
      at i j true e =
          let h = both (eqb row i) (eqb col j) e in
          let r : row ≡ i = eqb-true row i h.0 in
          let c : col ≡ j = eqb-true col j h.1 in
          let yes : (rows i && ltb j cols) ≡ true = sym (λ k. rows (r k) && ltb (c k) cols) ∙ on in
          (λ k. cond (yes k) (Some (unwrap_or (cond (e k) x (t i j)) R.nought)) None)
          ∙ sym (ap (λ b. cond b (Some (unwrap_or x R.nought)) (cond (rows i && ltb j cols) (Some (unwrap_or (t i j) R.nought)) None)) e)
      at i j false e =
          ap (λ b. cond (rows i && ltb j cols) (Some (unwrap_or (cond b x (t i j)) R.nought)) None) e
          ∙ sym (ap (λ b. cond b (Some (unwrap_or x R.nought)) (cond (rows i && ltb j cols) (Some (unwrap_or (t i j) R.nought)) None)) e)

module _ {S : Type 0} (R : Semiring S) (F : Conversions S) where
  -- the table of one line more
  pub lines-push : IsSemiring R → (lines : List Line) (l : Line)
      → lines_table R F (lines ++ l ∷ []) ≡ with_place (lines_table R F lines) l.row l.col (both_or_one R.plus (lines_table R F lines l.row l.col) (Some (number_of R F l.value)))
  lines-push L lines l =
      ap (table_of R) (flat_map-append (entry_numbers R F Plain) lines (l ∷ []))
      ∙ table_of-push L (flat_map (entry_numbers R F Plain) lines) (number_cell R F (own_cell l))

  -- a line that names no cell
  pub line-outside : IsSemiring R → (list : List ℕ) (columns : ℕ) (lines : List Line) (l : Line) → (stands l.row list && ltb l.col columns) ≡ false
      → lines_on R F list columns (lines ++ l ∷ []) ≡ lines_on R F list columns lines
  line-outside L list columns lines l off =
      ap (completed R (λ i. stands i list) columns) (lines-push L lines l)
      ∙ completed-outside R (λ i. stands i list) columns (lines_table R F lines) l.row l.col (both_or_one R.plus (lines_table R F lines l.row l.col) (Some (number_of R F l.value))) off

  grown : (o : Option S) (n : S) → IsSemiring R → unwrap_or (both_or_one R.plus o (Some n)) R.nought ≡ R.plus (unwrap_or o R.nought) n
  grown None n L = sym (L.plus_nought n)
  grown (Some a) n L = refl

  -- a line whose number is added
  pub line-inside : (v w : VectorState S) (lines : List Line) (l : Line) (lid : ℕ) (old : S) → IsSemiring R
      → local_index v.map l.row ≡ Some lid → l.col < v.columns → w.map ≡ v.map → vector_table v lid l.col ≡ Some old
      → vector_table w ≡ with_place (vector_table v) lid l.col (Some (R.plus old (number_of R F l.value)))
      → global_table v ≡ lines_on R F v.map v.columns lines → global_table w ≡ lines_on R F v.map v.columns (lines ++ l ∷ [])
  line-inside v w lines l lid old L there low same cell set is =
      let t = lines_table R F lines in
      let n = number_of R F l.value in
      let on : (stands l.row v.map && ltb l.col v.columns) ≡ true = ap (λ b. b && ltb l.col v.columns) (some_stands v.map l.row lid there) ∙ lt-ltb l.col v.columns low in
      let here : lines_on R F v.map v.columns lines l.row l.col ≡ Some (unwrap_or (t l.row l.col) R.nought) = ap (λ b. cond b (Some (unwrap_or (t l.row l.col) R.nought)) None) on in
      let was : old ≡ unwrap_or (t l.row l.col) R.nought = same_Some old (unwrap_or (t l.row l.col) R.nought) (sym (global-at v l.row l.col lid there ∙ cell) ∙ ap (λ u. u l.row l.col) is ∙ here) in
      global-set v w l.row lid l.col (R.plus old n) there same set
      ∙ (λ k. with_place (is k) l.row l.col (Some (R.plus (was k) n)))
      ∙ sym (ap (completed R (λ i. stands i v.map) v.columns) (lines-push L lines l)
      ∙ completed-inside R (λ i. stands i v.map) v.columns t l.row l.col (both_or_one R.plus (t l.row l.col) (Some n)) on
      ∙ ap (λ x. with_place (completed R (λ i. stands i v.map) v.columns t) l.row l.col (Some x)) (grown (t l.row l.col) n L))
