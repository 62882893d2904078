-- Matrices and cells within a size.
use Rattle.std.proofs.Common.{◌≡◌, ℕ, zero, suc, ◌+◌, ◌<◌, ◌≤◌, ◌⊎◌, inl, inr, Bool, true, false, cond, ltb, ◌&&◌, List, [], ◌∷◌, Option, None, Some, refl, sym, ap, ◌∙◌, arith}
use Rattle.std.proofs.lemmas.Bool.{cases_lt, and_parts, and_from, and_left, and_right, ltb-true, lt-ltb, le-ltb}
use Rattle.std.proofs.lemmas.List.Folds.{list_all-append}
use Rattle.tables.specs.declared.Cell.{Cell}
use Rattle.tables.specs.Indices.{count_from}
use Rattle.tables.specs.Tables.{Table, names, found, only_within, cell_if, row_cells, all_cells, block_cells, cells_of, AreInOrder, AreWithin}
use Rattle.tables.proofs.Tables.{names-place}
use Rattle.tables.proofs.Cells.{found-unique}
use Rattle.tables.proofs.Listed.{found-cells_of, AreInOrder-cells_of}

module _ {S : Type 0} where
  pub only_within-in : (rows cols : ℕ) (t : Table S) (i j : ℕ) → i < rows → j < cols → only_within rows cols t i j ≡ t i j
  only_within-in rows cols t i j p q = ap (λ b. cond b (t i j) None) (and_from _ _ (lt-ltb i rows p) (lt-ltb j cols q))

  pub only_within-out : (rows cols : ℕ) (t : Table S) (i j : ℕ) → (rows ≤ i) ⊎ (cols ≤ j) → only_within rows cols t i j ≡ None
  only_within-out rows cols t i j (inl p) = ap (λ b. cond b (t i j) None) (and_left (ltb i rows) (ltb j cols) (le-ltb i rows p))
  only_within-out rows cols t i j (inr p) = ap (λ b. cond b (t i j) None) (and_right (ltb i rows) (ltb j cols) (le-ltb j cols p))

  -- Matrices that agree on the places in the first rows and columns.
  pub only_within-ext : (rows cols : ℕ) (t u : Table S) → ((i j : ℕ) → i < rows → j < cols → t i j ≡ u i j) → only_within rows cols t ≡ only_within rows cols u
  only_within-ext rows cols t u h = λ s i j. at i j (ltb i rows) refl (ltb j cols) refl s
    where
      at : (i j : ℕ) (b : Bool) → ltb i rows ≡ b → (d : Bool) → ltb j cols ≡ d → cond (b && d) (t i j) None ≡ cond (b && d) (u i j) None
      at i j true e true f = h i j (ltb-true i rows e) (ltb-true j cols f)
      at i j true e false f = refl
      at i j false e d f = refl

  -- A matrix with no place beyond the sizes.
  pub only_within-all : (rows cols : ℕ) (t : Table S) → ((i j : ℕ) → (rows ≤ i) ⊎ (cols ≤ j) → t i j ≡ None) → only_within rows cols t ≡ t
  only_within-all rows cols t h = λ s i j. at i j (cases_lt i rows) (cases_lt j cols) s
    where
      at : (i j : ℕ) → (i < rows) ⊎ (rows ≤ i) → (j < cols) ⊎ (cols ≤ j) → only_within rows cols t i j ≡ t i j
      at i j (inl p) (inl q) = only_within-in rows cols t i j p q
      at i j (inl p) (inr q) = only_within-out rows cols t i j (inr q) ∙ sym (h i j (inr q))
      at i j (inr p) d = only_within-out rows cols t i j (inl p) ∙ sym (h i j (inl p))

  -- Cells within the sizes name no place beyond them.
  pub found-beyond : (rows cols : ℕ) (cs : List (Cell S)) → AreWithin rows cols cs → (i j : ℕ) → (rows ≤ i) ⊎ (cols ≤ j) → found cs i j ≡ None
  found-beyond rows cols [] w i j beyond = refl
  found-beyond rows cols (c ∷ cs) w i j beyond = at (names i j c) refl (found-beyond rows cols cs rest i j beyond)
    where
      here : ltb c.row rows && ltb c.col cols ≡ true
      here = (and_parts (ltb c.row rows && ltb c.col cols) _ w).0

      rest : AreWithin rows cols cs
      rest = (and_parts (ltb c.row rows && ltb c.col cols) _ w).1

      apart : c.row ≡ i → c.col ≡ j → (rows ≤ i) ⊎ (cols ≤ j) → ⊥
      apart p q (inl l) = let less = ltb-true c.row rows (and_parts (ltb c.row rows) _ here).0 in omega arith
      apart p q (inr l) = let less = ltb-true c.col cols (and_parts (ltb c.row rows) _ here).1 in omega arith

      at : (b : Bool) → names i j c ≡ b → found cs i j ≡ None → cond b (Some c.value) (found cs i j) ≡ None
      at true e more = let p = names-place i j c e in absurd (apart p.0 p.1 beyond)
      at false e more = more

  pub found-within : (rows cols : ℕ) (cs : List (Cell S)) → AreWithin rows cols cs → only_within rows cols (found cs) ≡ found cs
  found-within rows cols cs w = only_within-all rows cols (found cs) (found-beyond rows cols cs w)

  -- The cells of a matrix of this size are within it.
  within_row : (rows cols : ℕ) (t : Table S) (i n k : ℕ) → i < rows → n + k ≤ cols → AreWithin rows cols (row_cells t i (count_from n k))
  within_row rows cols t i n zero p q = refl
  within_row rows cols t i n (suc k) p q = list_all-append (λ c. ltb c.row rows && ltb c.col cols) (cell_if i n (t i n)) (row_cells t i (count_from (n + 1) k)) ∙ and_from _ _ (one (t i n)) (within_row rows cols t i (n + 1) k p (omega arith))
    where
      one : (v : Option S) → AreWithin rows cols (cell_if i n v)
      one None = refl
      one (Some v) = and_from _ true (and_from _ _ (lt-ltb i rows p) (lt-ltb n cols (omega arith))) refl

  within_all : (rows cols : ℕ) (t : Table S) (i m n k : ℕ) → i + m ≤ rows → n + k ≤ cols → AreWithin rows cols (all_cells t (count_from i m) (count_from n k))
  within_all rows cols t i zero n k p q = refl
  within_all rows cols t i (suc m) n k p q = list_all-append (λ c. ltb c.row rows && ltb c.col cols) (row_cells t i (count_from n k)) (all_cells t (count_from (i + 1) m) (count_from n k)) ∙ and_from _ _ (within_row rows cols t i n k (omega arith) q) (within_all rows cols t (i + 1) m n k (omega arith) q)

  pub AreWithin-block_cells : (first rows cols : ℕ) (t : Table S) → AreWithin (first + rows) cols (block_cells first rows cols t)
  AreWithin-block_cells first rows cols t = within_all (first + rows) cols t first rows 0 cols (omega arith) (omega arith)

  pub AreWithin-cells_of : (rows cols : ℕ) (t : Table S) → AreWithin rows cols (cells_of rows cols t)
  AreWithin-cells_of rows cols t = within_all rows cols t 0 rows 0 cols (omega arith) (omega arith)

  -- The one list in order, within the sizes, that has the places of a matrix.
  pub cells_of-unique : (rows cols : ℕ) (t : Table S) (cs : List (Cell S)) → AreInOrder cs → AreWithin rows cols cs
      → ((i j : ℕ) → i < rows → j < cols → found cs i j ≡ t i j) → cs ≡ cells_of rows cols t
  cells_of-unique rows cols t cs o w h =
      found-unique cs (cells_of rows cols t) o (AreInOrder-cells_of rows cols t)
      (sym (found-within rows cols cs w) ∙ only_within-ext rows cols (found cs) t h ∙ sym (found-cells_of rows cols t))

  -- The same, where no cell is known to be within the sizes but the whole matrix is known.
  pub cells_of-found : (rows cols : ℕ) (t : Table S) (cs : List (Cell S)) → AreInOrder cs → found cs ≡ only_within rows cols t → cs ≡ cells_of rows cols t
  cells_of-found rows cols t cs o e = found-unique cs (cells_of rows cols t) o (AreInOrder-cells_of rows cols t) (e ∙ sym (found-cells_of rows cols t))

  -- Matrices that agree on the places below the sizes have the same cells.
  pub cells_of-ext : (rows cols : ℕ) (t u : Table S) → ((i j : ℕ) → i < rows → j < cols → t i j ≡ u i j) → cells_of rows cols t ≡ cells_of rows cols u
  cells_of-ext rows cols t u h = cells_of-found rows cols u (cells_of rows cols t) (AreInOrder-cells_of rows cols t) (found-cells_of rows cols t ∙ only_within-ext rows cols t u h)
