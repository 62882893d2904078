-- Blocks of consecutive rows: the cells of one block after the other.
use Rattle.std.proofs.Common.{◌≡◌, ℕ, ◌+◌, ◌<◌, ◌≤◌, inl, Bool, true, false, cond, ltb, leb, ◌&&◌, List, [], ◌∷◌, ◌++◌, append_assoc, sum, Option, None, refl, sym, ap, ◌∙◌, arith}
use Rattle.std.specs.List.{list_all}
use Rattle.std.proofs.lemmas.Bool.{and_parts, and_from, ltb-true, lt-ltb, leb-true}
use Rattle.std.proofs.lemmas.List.Sums.{sum_by-cons}
use Rattle.tables.specs.declared.Cell.{Cell}
use Rattle.tables.specs.Indices.{count_from}
use Rattle.tables.specs.Tables.{Table, only_rows, row_cells, all_cells, block_cells, cells_of, stands_before, AreInOrder, blocks_of}
use Rattle.tables.proofs.Orders.{before-from, AreInOrder-append}
use Rattle.tables.proofs.Cells.{found-unique}
use Rattle.tables.proofs.Listed.{found-block_cells, found-cells_of, AreInOrder-block_cells, AreInOrder-cells_of}
use Rattle.tables.proofs.Counting.{count_from-append}

abbrev nothing : (S : Type 0) → Option S
nothing S = None

module _ {S : Type 0} where
  pub all_cells-append : (t : Table S) (is ks js : List ℕ) → all_cells t (is ++ ks) js ≡ all_cells t is js ++ all_cells t ks js
  all_cells-append t [] ks js = refl
  all_cells-append t (i ∷ is) ks js = ap (λ l. row_cells t i js ++ l) (all_cells-append t is ks js) ∙ sym (append_assoc (row_cells t i js) (all_cells t is js) (all_cells t ks js))

  -- The rows of one block, then those of the next.
  pub block_cells-append : (first m n cols : ℕ) (t : Table S) → block_cells first (m + n) cols t ≡ block_cells first m cols t ++ block_cells (first + m) n cols t
  block_cells-append first m n cols t = (λ s. all_cells t (count_from-append first m n s) (count_from 0 cols)) ∙ all_cells-append t (count_from first m) (count_from (first + m) n) (count_from 0 cols)

  -- The blocks of all ranks.
  pub blocks_of-sum : (first cols : ℕ) (sizes : List ℕ) (t : Table S) → blocks_of first sizes cols t ≡ block_cells first (sum sizes) cols t
  blocks_of-sum first cols [] t = refl
  blocks_of-sum first cols (m ∷ ms) t =
      ap (λ l. block_cells first m cols t ++ l) (blocks_of-sum (first + m) cols ms t)
      ∙ sym (block_cells-append first m (sum ms) cols t)
      ∙ (λ s. block_cells first (sym (sum_by-cons (λ x. x) m ms) s) cols t)

  -- Every row of one list is below every row of another, so its cells stand before the other's.
  before_block : (m : ℕ) (xs ys : List (Cell S)) → list_all (λ c. ltb c.row m) xs ≡ true → list_all (λ c. leb m c.row) ys ≡ true → list_all (λ c. list_all (stands_before c) ys) xs ≡ true
  before_block m [] ys p q = refl
  before_block m (x ∷ xs) ys p q = let both = and_parts (ltb x.row m) _ p in and_from _ _ (each ys (ltb-true x.row m both.0) q) (before_block m xs ys both.1 q)
    where
      each : (ys : List (Cell S)) → x.row < m → list_all (λ c. leb m c.row) ys ≡ true → list_all (stands_before x) ys ≡ true
      each [] l q = refl
      each (y ∷ ys) l q =
          let both = and_parts (leb m y.row) _ q in
          let high = leb-true m y.row both.0 in
          and_from _ _ (before-from x y (inl (omega arith))) (each ys l both.1)

  pub AreInOrder-blocks : (m : ℕ) (xs ys : List (Cell S)) → AreInOrder xs → AreInOrder ys → list_all (λ c. ltb c.row m) xs ≡ true → list_all (λ c. leb m c.row) ys ≡ true → AreInOrder (xs ++ ys)
  AreInOrder-blocks m xs ys o p below above = AreInOrder-append xs ys o p (before_block m xs ys below above)

  -- A rank that owns the rows from `first` on, and no others, has the cells of that block.
  pub cells_of-only_rows : (size first rows cols : ℕ) (t : Table S) → first + rows ≤ size
      → cells_of size cols (only_rows (λ i. leb first i && ltb i (first + rows)) t) ≡ block_cells first rows cols t
  cells_of-only_rows size first rows cols t fits =
      found-unique (cells_of size cols own) (block_cells first rows cols t) (AreInOrder-cells_of size cols own) (AreInOrder-block_cells first rows cols t)
      (found-cells_of size cols own ∙ (λ s i j. (at i j (leb first i && ltb i (first + rows)) refl ∙ sym (found-block_cells first rows cols t i j)) s))
    where
      own : Table S
      own = only_rows (λ i. leb first i && ltb i (first + rows)) t

      none : (b : Bool) → cond b (nothing S) None ≡ None
      none true = refl
      none false = refl

      at : (i j : ℕ) (b : Bool) → leb first i && ltb i (first + rows) ≡ b → cond (ltb i size && ltb j cols) (cond b (t i j) None) None ≡ cond (b && ltb j cols) (t i j) None
      at i j true e =
          let below = ltb-true i (first + rows) (and_parts (leb first i) _ e).1 in
          ap (λ b. cond (b && ltb j cols) (t i j) None) (lt-ltb i size (omega arith))
      at i j false e = none (ltb i size && ltb j cols)
