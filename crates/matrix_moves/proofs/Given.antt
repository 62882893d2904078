-- The rows of a source, and those of them that stay.
use Rattle.std.proofs.Common.{◌≡◌, ℕ, zero, suc, ◌<◌, Bool, true, false, cond, ◌&&◌, ◌||◌, eqb, nat_lt, List, [], ◌∷◌, map, length, get_or, Option, Some, None, refl, sym, ap, subst, ◌∙◌, arith, lt-ltb}
use Rattle.std.specs.List.{list_all, zip}
use Rattle.std.specs.Option.{option_or}
use Rattle.std.proofs.lemmas.Bool.{eqb-true}
use Rattle.std.proofs.lemmas.List.{length-map}
use Rattle.std.proofs.lemmas.Option.{slice_get-get_or}
use Rattle.scalar_laws.specs.Semiring.{Semiring}
use Rattle.tables.specs.Indices.{AreBelow, AreDistinct, stands}
use Rattle.tables.specs.Tables.{found}
use Rattle.tables.proofs.Listed.{found-append}
use Rattle.map_core.specs.Classes.{index_at, indices_at}
use Rattle.map_core.specs.Plans.{PlanLists}
use Rattle.map_core.proofs.Places.{local_index-from}
use Rattle.combine_modes.specs.declared.mode.Mode.{Mode}
use Rattle.distributor.specs.Entries.{Entry, entry_at, placed, with_cells}
use Rattle.distributor.specs.Transfers.{moved_cells, own_moves}
use Rattle.crs_graph.proofs.Ascending.{AreDistinct-ascending}
use Rattle.crs_matrix.specs.Rows.{IsRowCells, RowCells, columns_in, entries_of, has_row, local_table, number_at, number_in, row_entries, row_table}
use Rattle.vector_moves.specs.Moves.{AreMoves, own_sources, own_targets}
use Rattle.vector_moves.proofs.Sent.{own-pairs}
use Rattle.matrix_moves.specs.Sources.{IsRowSource, as_rows, own_rows}
use Rattle.matrix_moves.specs.Arrivals.{after_table}
use Rattle.matrix_moves.proofs.Placed.{HaveColumns, below-taken, found-row, moved-cells, put_rows, rows-apart, rows-below}
use Rattle.matrix_moves.proofs.Gathered.{gathered, globally, put-globally}

-- positions below a count are known
known : (n : ℕ) (froms tos : List ℕ) → AreBelow n froms → list_all (λ m. nat_lt m.0 n) (zip froms tos) ≡ true
known n [] tos b = refl
known n (f ∷ fs) [] b = refl
known n (f ∷ fs) (t ∷ ts) b =
    ap (λ c. c && list_all (λ (m : ℕ × ℕ). nat_lt m.0 n) (zip fs ts)) (lt-ltb f n b.0) ∙ known n fs ts b.1

pub all-known : (n : ℕ) (froms : List ℕ) → AreBelow n froms → list_all (λ p. nat_lt p n) froms ≡ true
all-known n [] b = refl
all-known n (f ∷ fs) b = ap (λ c. c && list_all (λ p. nat_lt p n) fs) (lt-ltb f n b.0) ∙ all-known n fs b.1

module _ {S : Type 0} where
  -- the cells of one row
  abbrev pub row_of : RowCells S → ℕ → List (ℕ × S)
  row_of a l = get_or a.cells l []

  pub cells-at : (entries : List (Entry S)) (l : ℕ) → (entry_at entries l).cells ≡ row_of (as_rows entries) l
  cells-at [] l = refl
  cells-at (e ∷ es) zero = refl
  cells-at (e ∷ es) (suc l) = cells-at es l

  pub gid-at : (entries : List (Entry S)) (l : ℕ) → (entry_at entries l).gid ≡ index_at (as_rows entries).rows l
  gid-at [] l = refl
  gid-at (e ∷ es) zero = refl
  gid-at (e ∷ es) (suc l) = gid-at es l

  pub count-rows : (entries : List (Entry S)) → length (as_rows entries).rows ≡ length entries
  count-rows entries = length-map entries (λ e. e.gid)

  pub rows-at : (entries : List (Entry S)) (froms : List ℕ) → map (λ f. (entry_at entries f).cells) froms ≡ map (row_of (as_rows entries)) froms
  rows-at entries [] = refl
  rows-at entries (f ∷ fs) = λ s. cells-at entries f s ∷ rows-at entries fs s

  -- the entries of a matrix are its rows
  pub entries-are-rows : (a : RowCells S) → IsRowCells a → as_rows (row_entries a) ≡ a
  entries-are-rows a is = λ s. record { rows = (both a.rows a.cells is.each).0 s; cells = (both a.rows a.cells is.each).1 s }
    where
      both : (rows : List ℕ) (cells : List (List (ℕ × S))) → length cells ≡ length rows
          → (map (λ (e : Entry S). e.gid) (entries_of rows cells) ≡ rows) × (map (λ (e : Entry S). e.cells) (entries_of rows cells) ≡ cells)
      both [] [] e = (refl, refl)
      both [] (c ∷ cs) e = absurd (omega (arith, e))
      both (g ∷ gs) [] e = absurd (omega (arith, e))
      both (g ∷ gs) (c ∷ cs) e =
          let rest = both gs cs (omega (arith, e)) in
          (ap (λ z. g ∷ z) rest.0, ap (λ z. c ∷ z) rest.1)

  pub row-source : (a : RowCells S) → IsRowCells a → AreDistinct a.rows → IsRowSource (as_rows (row_entries a))
  row-source a is distinct =
      let P : RowCells S → Type 0 = IsRowSource in
      subst P (sym (entries-are-rows a is)) (record { distinct = distinct; is_matrix = is })

  pub have-columns : (a : RowCells S) → IsRowCells a → (froms : List ℕ) → HaveColumns (map (row_of a) froms)
  have-columns a is [] = tt
  have-columns a is (f ∷ fs) = (AreDistinct-ascending (columns_in (row_of a f)) (is.ascend f), have-columns a is fs)

  -- a number of a row, by its global index
  pub row-number : (a : RowCells S) (f g j : ℕ) → AreDistinct a.rows → f < length a.rows → index_at a.rows f ≡ g → number_at (row_of a f) j ≡ row_table a g j
  row-number a f g j distinct low e =
      sym (ap (λ o. number_in a o j) (local_index-from a.rows g f distinct (slice_get-get_or a.rows f 0 low ∙ ap Some e)))

  -- what comes of some rows
  found-own : (a : RowCells S) → IsRowSource a → (froms : List ℕ) → AreBelow (length a.rows) froms → (g j : ℕ)
      → found (put_rows (map (row_of a) froms) (indices_at a.rows froms)) g j ≡ cond (stands g (indices_at a.rows froms)) (row_table a g j) None
  found-own a is [] b g j = refl
  found-own a is (f ∷ fs) b g j =
      found-append (map (placed (index_at a.rows f)) (row_of a f)) (put_rows (map (row_of a) fs) (indices_at a.rows fs)) g j
      ∙ (λ s. option_or (found-row (index_at a.rows f) (row_of a f) g j s) (found-own a is fs b.1 g j s))
      ∙ by (eqb (index_at a.rows f) g) refl
    where
      both : (o : Option S) (c : Bool) → option_or o (cond c o None) ≡ o
      both None true = refl
      both None false = refl
      both (Some v) c = refl

      by : (c : Bool) → eqb (index_at a.rows f) g ≡ c
          → option_or (cond c (number_at (row_of a f) j) None) (cond (stands g (indices_at a.rows fs)) (row_table a g j) None)
          ≡ cond (c || stands g (indices_at a.rows fs)) (row_table a g j) None
      by true e =
          ap (λ o. option_or o (cond (stands g (indices_at a.rows fs)) (row_table a g j) None))
          (row-number a f g j is.distinct b.0 (eqb-true (index_at a.rows f) g e))
          ∙ both (row_table a g j) (stands g (indices_at a.rows fs))
      by false e = refl

  module _ (entries : List (Entry S)) (y : RowCells S) (p : PlanLists)
      (moves : AreMoves (as_rows entries).rows y.rows (own_sources p) (own_targets p)) where
    own-cells : moved_cells entries (own_moves p) ≡ put_rows (map (row_of (as_rows entries)) (own_sources p)) (own_targets p)
    own-cells =
        ap (moved_cells entries) (own-pairs p)
        ∙ moved-cells entries (own_sources p) (own_targets p)
        ∙ ap (λ rs. put_rows rs (own_targets p)) (rows-at entries (own_sources p))

    pub own-known : list_all (λ m. nat_lt m.0 (length entries)) (own_moves p) ≡ true
    own-known =
        ap (list_all (λ m. nat_lt m.0 (length entries))) (own-pairs p)
        ∙ (let B : ℕ → Type 0 = λ n. AreBelow n (own_sources p) in
        known (length entries) (own_sources p) (own_targets p) (subst B (count-rows entries) moves.sources))

    pub own-taken : list_all (λ c. has_row y c.row c.col) (moved_cells entries (own_moves p)) ≡ true
    own-taken =
        ap (list_all (λ c. has_row y c.row c.col)) own-cells
        ∙ below-taken (length y.rows) (put_rows (map (row_of (as_rows entries)) (own_sources p)) (own_targets p))
        (rows-below (length y.rows) (map (row_of (as_rows entries)) (own_sources p)) (own_targets p) moves.targets)

    pub own-table : IsRowSource (as_rows entries) → (R : Semiring S) (mode : Mode) (new : RowCells S) → AreDistinct y.rows → new.rows ≡ y.rows
        → local_table new ≡ with_cells R mode false (local_table y) (moved_cells entries (own_moves p))
        → row_table new ≡ after_table R mode (row_table y) (own_rows p (as_rows entries))
    own-table is R mode new distinct same h =
        gathered y.rows distinct R mode y new refl same (put_rows rs (own_targets p))
        (rows-below (length y.rows) rs (own_targets p) moves.targets)
        (rows-apart rs (own_targets p) (have-columns (as_rows entries) is.is_matrix (own_sources p)) moves.once)
        (h ∙ ap (with_cells R mode false (local_table y)) own-cells)
        ∙ ap (after_table R mode (row_table y)) came
      where
        rs : List (List (ℕ × S))
        rs = map (row_of (as_rows entries)) (own_sources p)

        came : found (map (globally y.rows) (put_rows rs (own_targets p))) ≡ own_rows p (as_rows entries)
        came =
            ap found (put-globally y.rows rs (own_targets p) ∙ ap (put_rows rs) (sym moves.indices))
            ∙ (λ s g j. found-own (as_rows entries) is (own_sources p) moves.sources g j s)
