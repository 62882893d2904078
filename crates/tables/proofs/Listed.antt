-- The cells of a matrix, listed in order.
use Rattle.std.proofs.Common.{◌≡◌, ℕ, zero, suc, ◌<◌, ◌+◌, ◌⊎◌, inl, inr, Bool, true, false, cond, eqb, ltb, leb, ◌||◌, ◌&&◌, List, [], ◌∷◌, ◌++◌, Option, None, Some, refl, sym, ap, ◌∙◌, arith}
use Rattle.std.specs.List.{list_all}
use Rattle.std.specs.Option.{option_or}
use Rattle.std.proofs.lemmas.Bool.{eqb-true, and_from, le-leb}
use Rattle.std.proofs.lemmas.List.Folds.{list_all-append}
use Rattle.scalar_laws.specs.Semiring.{Semiring}
use Rattle.tables.specs.declared.Cell.{Cell}
use Rattle.tables.specs.Indices.{stands, count_from}
use Rattle.tables.specs.Tables.{Table, names, table_of, found, only_within, cell_if, row_cells, all_cells, block_cells, cells_of, stands_before, AreInOrder}
use Rattle.tables.proofs.Orders.{before-from}
use Rattle.tables.proofs.Cells.{table_of-found}
use Rattle.tables.proofs.Counting.{stands-count_from}

from_zero : (n j : ℕ) → (leb 0 j && ltb j (0 + n)) ≡ ltb j n
from_zero n j = ap (λ b. b && ltb j (0 + n)) (le-leb 0 j (omega arith)) ∙ (λ t. ltb j (all t))
  where
    all : 0 + n ≡ n
    all = omega arith

module _ {S : Type 0} where
  pub found-append : (xs ys : List (Cell S)) (i j : ℕ) → found (xs ++ ys) i j ≡ option_or (found xs i j) (found ys i j)
  found-append [] ys i j = refl
  found-append (x ∷ xs) ys i j = go (names i j x) (found-append xs ys i j)
    where
      go : (b : Bool) → found (xs ++ ys) i j ≡ option_or (found xs i j) (found ys i j) → cond b (Some x.value) (found (xs ++ ys) i j) ≡ option_or (cond b (Some x.value) (found xs i j)) (found ys i j)
      go true e = refl
      go false e = e

  nothing : (c : Bool) → let none : Option S = None in cond c none none ≡ none
  nothing true = refl
  nothing false = refl

  found-cell_if : (v : Option S) (i j a b : ℕ) → found (cell_if i j v) a b ≡ cond (eqb i a && eqb j b) v None
  found-cell_if None i j a b = sym (nothing (eqb i a && eqb j b))
  found-cell_if (Some v) i j a b = refl

  found-row_cells : (t : Table S) (i : ℕ) (js : List ℕ) (a b : ℕ) → found (row_cells t i js) a b ≡ cond (eqb i a && stands b js) (t a b) None
  found-row_cells t i [] a b = go (eqb i a)
    where
      go : (c : Bool) → let none : Option S = None in none ≡ cond (c && false) (t a b) None
      go true = refl
      go false = refl
  found-row_cells t i (j ∷ js) a b =
      found-append (cell_if i j (t i j)) (row_cells t i js) a b
      ∙ (λ s. option_or (found-cell_if (t i j) i j a b s) (found-row_cells t i js a b s))
      ∙ go (eqb i a) refl (eqb j b) refl (stands b js)
    where
      twice : (o : Option S) (c : Bool) → option_or o (cond c o None) ≡ o
      twice None true = refl
      twice None false = refl
      twice (Some v) c = refl

      go : (c : Bool) → eqb i a ≡ c → (d : Bool) → eqb j b ≡ d → (s : Bool) → option_or (cond (c && d) (t i j) None) (cond (c && s) (t a b) None) ≡ cond (c && (d || s)) (t a b) None
      go false e d f s = refl
      go true e false f s = refl
      go true e true f s = (λ r. option_or (t (eqb-true i a e r) (eqb-true j b f r)) (cond s (t a b) None)) ∙ twice (t a b) s

  found-all_cells : (t : Table S) (is js : List ℕ) (a b : ℕ) → found (all_cells t is js) a b ≡ cond (stands a is && stands b js) (t a b) None
  found-all_cells t [] js a b = refl
  found-all_cells t (i ∷ is) js a b =
      found-append (row_cells t i js) (all_cells t is js) a b
      ∙ (λ s. option_or (found-row_cells t i js a b s) (found-all_cells t is js a b s))
      ∙ go (eqb i a) (stands a is) (stands b js) (t a b)
    where
      go : (c s d : Bool) (o : Option S) → option_or (cond (c && d) o None) (cond (s && d) o None) ≡ cond ((c || s) && d) o None
      go true true true None = refl
      go true true true (Some v) = refl
      go true true false o = refl
      go true false true None = refl
      go true false true (Some v) = refl
      go true false false o = refl
      go false s d o = refl

  -- A look-up in the cells of a block of rows.
  pub found-block_cells : (first rows cols : ℕ) (t : Table S) (i j : ℕ) → found (block_cells first rows cols t) i j ≡ cond ((leb first i && ltb i (first + rows)) && ltb j cols) (t i j) None
  found-block_cells first rows cols t i j =
      found-all_cells t (count_from first rows) (count_from 0 cols) i j
      ∙ (λ s. cond (stands-count_from first rows i s && (stands-count_from 0 cols j ∙ from_zero cols j) s) (t i j) None)

  -- A look-up in the cells of a matrix.
  pub found-cells_of : (rows cols : ℕ) (t : Table S) → found (cells_of rows cols t) ≡ only_within rows cols t
  found-cells_of rows cols t = λ s i j. (found-block_cells 0 rows cols t i j ∙ (λ r. cond (from_zero rows i r && ltb j cols) (t i j) None)) s

  -- All cells of a row from column n on stand after c.
  before_row : (c : Cell S) (t : Table S) (i n k : ℕ) → (c.row < i) ⊎ ((c.row ≡ i) × (c.col < n)) → list_all (stands_before c) (row_cells t i (count_from n k)) ≡ true
  before_row c t i n zero h = refl
  before_row c t i n (suc k) h = list_all-append (stands_before c) (cell_if i n (t i n)) (row_cells t i (count_from (n + 1) k)) ∙ and_from _ _ (one (t i n)) (before_row c t i (n + 1) k (more h))
    where
      more : (c.row < i) ⊎ ((c.row ≡ i) × (c.col < n)) → (c.row < i) ⊎ ((c.row ≡ i) × (c.col < n + 1))
      more (inl l) = inl l
      more (inr l) = inr (l.0, omega arith)

      one : (v : Option S) → list_all (stands_before c) (cell_if i n v) ≡ true
      one None = refl
      one (Some v) = and_from _ true (before-from c (record { row = i; col = n; value = v }) h) refl

  -- All cells of later rows stand after c.
  pub before_all_cells : (c : Cell S) (t : Table S) (i m n k : ℕ) → c.row < i → list_all (stands_before c) (all_cells t (count_from i m) (count_from n k)) ≡ true
  before_all_cells c t i zero n k h = refl
  before_all_cells c t i (suc m) n k h = list_all-append (stands_before c) (row_cells t i (count_from n k)) (all_cells t (count_from (i + 1) m) (count_from n k)) ∙ and_from _ _ (before_row c t i n k (inl h)) (before_all_cells c t (i + 1) m n k (omega arith))

  in_order_row : (t : Table S) (i n k : ℕ) (rest : List (Cell S)) → ((c : Cell S) → c.row ≡ i → list_all (stands_before c) rest ≡ true) → AreInOrder rest → AreInOrder (row_cells t i (count_from n k) ++ rest)
  in_order_row t i n zero rest h o = o
  in_order_row t i n (suc k) rest h o = go (t i n) (in_order_row t i (n + 1) k rest h o)
    where
      go : (v : Option S) → AreInOrder (row_cells t i (count_from (n + 1) k) ++ rest) → AreInOrder ((cell_if i n v ++ row_cells t i (count_from (n + 1) k)) ++ rest)
      go None o = o
      go (Some v) o =
          let c : Cell S = record { row = i; col = n; value = v } in
          (list_all-append (stands_before c) (row_cells t i (count_from (n + 1) k)) rest ∙ and_from _ _ (before_row c t i (n + 1) k (inr (refl, omega arith))) (h c refl), o)

  in_order_all : (t : Table S) (i m n k : ℕ) → AreInOrder (all_cells t (count_from i m) (count_from n k))
  in_order_all t i zero n k = tt
  in_order_all t i (suc m) n k = in_order_row t i n k (all_cells t (count_from (i + 1) m) (count_from n k)) (λ c e. before_all_cells c t (i + 1) m n k (omega arith)) (in_order_all t (i + 1) m n k)

  pub AreInOrder-block_cells : (first rows cols : ℕ) (t : Table S) → AreInOrder (block_cells first rows cols t)
  AreInOrder-block_cells first rows cols t = in_order_all t first rows 0 cols

  pub AreInOrder-cells_of : (rows cols : ℕ) (t : Table S) → AreInOrder (cells_of rows cols t)
  AreInOrder-cells_of rows cols t = AreInOrder-block_cells 0 rows cols t

  -- The matrix of the cells of a matrix.
  pub table_of-cells_of : (R : Semiring S) (rows cols : ℕ) (t : Table S) → table_of R (cells_of rows cols t) ≡ only_within rows cols t
  table_of-cells_of R rows cols t = table_of-found R (cells_of rows cols t) (AreInOrder-cells_of rows cols t) ∙ found-cells_of rows cols t
