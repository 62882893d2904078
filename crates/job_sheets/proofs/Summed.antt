-- The cells of ranks together, and what is shown of them.
use Rattle.std.proofs.Common.{◌≡◌, ℕ, zero, suc, ◌+◌, ◌<◌, true, false, List, [], ◌∷◌, ◌++◌, All, length, get_or, take, filter, map, refl, sym, ap, ◌∙◌, subst, arith}
use Rattle.std.specs.Global.{Vec}
use Rattle.std.specs.List.{slice_index_or}
use Rattle.std.proofs.lemmas.List.{take_more}
use Rattle.scalar_laws.specs.Semiring.{Semiring, IsSemiring}
use Rattle.tables.specs.declared.Cell.{Cell}
use Rattle.tables.specs.Indices.{count_from, each_rank}
use Rattle.tables.specs.Tables.{table_of, found, sum_of, cells_of, AreInOrder}
use Rattle.tables.proofs.Cells.{table_of-found}
use Rattle.tables.proofs.Tables.{table_of-flat_map}
use Rattle.gathered_rows.specs.Blocks.{cells_in}
use Rattle.gathered_rows.proofs.Blocks.{cells_in-last}
use Rattle.job_sheets.specs.Cells.{is_within, listed, placed, sum_of_pieces, turned}
use Rattle.job_sheets.specs.Values.{table_at}
use Rattle.job_sheets.proofs.Places.{flipped, placed-turned, table_of-turned, turned-cells_of, within-cells_of, within-turned}

module _ {S : Type 0} where
  abbrev pub AreAllInOrder : List (Vec (Cell S)) → Type 0
  AreAllInOrder pieces = All (λ piece. AreInOrder piece.items) pieces

  -- the cells of the first ranks, and of one more
  pub cells_in-more : (pieces : List (Vec (Cell S))) (i : ℕ) (piece : Vec (Cell S)) → i < length pieces → piece ≡ get_or pieces i piece → cells_in (take (i + 1) pieces) ≡ cells_in (take i pieces) ++ piece.items
  cells_in-more pieces i piece l is =
      ap cells_in (take_more pieces i piece l) ∙ cells_in-last (take i pieces) (get_or pieces i piece) ∙ ap (λ p. cells_in (take i pieces) ++ p.items) (sym is)

  pub piece-in_order : (pieces : List (Vec (Cell S))) (i : ℕ) (piece : Vec (Cell S)) → i < length pieces → piece ≡ get_or pieces i piece → AreAllInOrder pieces → AreInOrder piece.items
  piece-in_order pieces i piece l is o = subst (λ p. AreInOrder p.items) (sym is) (o i piece l)

  all-found : (R : Semiring S) (pieces : List (Vec (Cell S))) → AreAllInOrder pieces → map (λ piece. table_of R piece.items) pieces ≡ map (λ piece. found piece.items) pieces
  all-found R [] o = refl
  all-found R (piece ∷ pieces) o =
      λ t. table_of-found R piece.items (o 0 piece (omega arith)) t ∷ all-found R pieces (λ k d l. o (suc k) d (omega arith)) t

  -- all cells together are the sum of the tables
  pub sum-cells_in : {R : Semiring S} → IsSemiring R → (pieces : List (Vec (Cell S))) → AreAllInOrder pieces → table_of R (cells_in pieces) ≡ sum_of_pieces R pieces
  sum-cells_in {R} L pieces o = table_of-flat_map L (λ piece. piece.items) pieces ∙ ap (sum_of R) (all-found R pieces o)

  -- what is shown of cells in order that are the sum, row by row
  pub rows-within : {R : Semiring S} → IsSemiring R → (rows cols : ℕ) (pieces : List (Vec (Cell S))) (cells : List (Cell S)) → AreAllInOrder pieces → AreInOrder cells
      → found cells ≡ table_of R (cells_in pieces) → filter (is_within rows cols) cells ≡ listed false rows cols (sum_of_pieces R pieces)
  rows-within L rows cols pieces cells all o e = within-cells_of rows cols cells o ∙ ap (cells_of rows cols) (e ∙ sum-cells_in L pieces all)

  -- and of exchanged cells in order, column by column
  pub columns-within : {R : Semiring S} → IsSemiring R → (rows cols : ℕ) (pieces : List (Vec (Cell S))) (cells : List (Cell S)) → AreAllInOrder pieces → AreInOrder cells
      → found cells ≡ table_of R (map (placed true) (cells_in pieces)) → filter (is_within rows cols) (map (placed true) cells) ≡ listed true rows cols (sum_of_pieces R pieces)
  columns-within {R} L rows cols pieces cells all o e =
      ap (filter (is_within rows cols)) (placed-turned cells)
      ∙ within-turned rows cols cells
      ∙ ap (map turned) (within-cells_of cols rows cells o
      ∙ ap (cells_of cols rows) (e ∙ ap (table_of R) (placed-turned (cells_in pieces)) ∙ table_of-turned R (cells_in pieces) ∙ ap flipped (sum-cells_in L pieces all)))
      ∙ turned-cells_of rows cols (sum_of_pieces R pieces)

  -- rank k's cells
  pub items-at : (pieces : List (Vec (Cell S))) (k : ℕ) (piece : Vec (Cell S)) → k < length pieces → slice_index_or (map (λ p. p.items) pieces) k [] ≡ (get_or pieces k piece).items
  items-at [] k piece l = absurd (omega arith)
  items-at (p ∷ ps) zero piece l = refl
  items-at (p ∷ ps) (suc k) piece l = items-at ps k piece (omega arith)

  pub table-at : (pieces : List (Vec (Cell S))) (k : ℕ) (piece : Vec (Cell S)) → k < length pieces → piece ≡ get_or pieces k piece → table_at pieces k ≡ found piece.items
  table-at pieces k piece l is = ap found (items-at pieces k piece l ∙ ap (λ p. p.items) (sym is))

each-from : {X Y : Type 0} (h : X → Y) (g : ℕ → Y) (n : ℕ) (xs : List X) → ((k m : ℕ) (d : X) → m ≡ n + k → k < length xs → g m ≡ h (get_or xs k d)) → map g (count_from n (length xs)) ≡ map h xs
each-from h g n [] e = refl
each-from h g n (x ∷ xs) e = λ t. e 0 n x (omega arith) (omega arith) t ∷ each-from h g (n + 1) xs (λ k m d f l. e (suc k) m d (omega arith) (omega arith)) t

-- the sum over the ranks is the sum over the pieces
pub sum-each_rank : {S : Type 0} (R : Semiring S) (P : ℕ) (pieces : List (Vec (Cell S))) → length pieces ≡ P → sum_of R (each_rank P (table_at pieces)) ≡ sum_of_pieces R pieces
sum-each_rank R P pieces many =
    ap (λ n. sum_of R (each_rank n (table_at pieces))) (sym many)
    ∙ ap (sum_of R) (each-from (λ piece. found piece.items) (table_at pieces) 0 pieces
    (λ k m d f l. ap (table_at pieces) (f ∙ zero_plus k) ∙ ap found (items-at pieces k d l)))
  where
    zero_plus : (k : ℕ) → 0 + k ≡ k
    zero_plus k = omega arith
