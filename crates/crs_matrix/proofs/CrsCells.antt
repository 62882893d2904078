-- A matrix in compressed rows as rows of cells.
use Rattle.std.proofs.Common.{◌≡◌, ℕ, zero, suc, ◌<◌, Bool, true, false, ◌||◌, ◌==◌, cond, nat_lt, List, [], ◌∷◌, length, get_or, map, slice_get, is_some, Option, Some, None, inl, inr, refl, sym, ap, subst, ◌∙◌, arith}
use Rattle.std.specs.List.Sorted.{IsStrictlyIncreasing}
use Rattle.std.proofs.lemmas.Bool.{cases_Bool, cases_lt, eqb-true}
use Rattle.std.proofs.lemmas.Bool.Decides.{nat_tests}
use Rattle.std.proofs.lemmas.List.{get_or_past, get_or-map, length-map}
use Rattle.std.proofs.lemmas.List.FromFn.{get_or-map-range_with_len, length-map-range_with_len}
use Rattle.std.proofs.lemmas.Option.{get_or_from_slice_get, slice_get-get_or, slice_get_within}
use Rattle.tables.specs.Indices.{AreBelow}
use Rattle.map_core.specs.Classes.{index_at, place}
use Rattle.map_core.specs.Layouts.{local_index, stands, AreDistinct}
use Rattle.map_core.proofs.Places.{first_place, global_index-from}
use Rattle.distributor.specs.Entries.{entry_at, columns_of}
use Rattle.crs_graph.specs.Ascending.{ascending, IsAscending}
use Rattle.crs_graph.specs.Graphs.{by_index, graph_row}
use Rattle.crs_graph.proofs.AllColumns.{ascending-ascends, stands-ascending}
use Rattle.crs_graph.proofs.Ascending.{stands-at, AreDistinct-ascending}
use Rattle.crs_graph.proofs.GraphPlaces.{some_stands}
use Rattle.crs_graph.proofs.LocalColumns.{below-stands, length-ascending, placed, stands-from_map, stands-to_map, IsPlace}
use Rattle.crs_matrix.specs.ByRow.{by_row, cells_with, crs_cells, number_in_row, row_gids}
use Rattle.crs_matrix.specs.Matrices.{crs_number, crs_table, number_at_place, numbers, Crs, IsCrs}
use Rattle.crs_matrix.specs.Rows.{columns_in, number_at, number_in, row_entries, row_table, IsRowCells}
use Rattle.crs_matrix.specs.Stored.{cell_before}
use Rattle.crs_matrix.proofs.Clauses.{entry-of, known-row, IsStrictlyIncreasing-ascending}
use Rattle.crs_matrix.proofs.Numbers.{slice_get-there}

-- ---- columns of a row

place-index : (xs : List ℕ) (g : ℕ) → stands g xs ≡ true → local_index xs g ≡ Some (place xs g)
place-index xs g on =
    let low = (placed xs g on).within in
    let there : nat_lt (place xs g) (length xs) ≡ true = grind (arith, nat_tests) in
    ap (λ b. cond b (Some (place xs g)) None) there

-- a global column of a row has a local index, which has a place in the row
record IsColumnAt (cols row : List ℕ) (g : ℕ) : Type 0 where
  pub known : local_index cols g ≡ Some (place cols g)
  pub index : index_at cols (place cols g) ≡ g
  pub low : place cols g < length cols
  pub at : IsPlace row (place cols g) (place row (place cols g))
  pub there : local_index row (place cols g) ≡ Some (place row (place cols g))

column-at : (cols row : List ℕ) (g : ℕ) → AreDistinct cols → AreBelow (length cols) row → stands g (ascending (map (index_at cols) row)) ≡ true → IsColumnAt cols row g
column-at cols row g distinct below on =
    let from = stands-from_map (index_at cols) row g (sym (stands-ascending (map (index_at cols) row) g) ∙ on) in
    let low = below-stands (length cols) row from.source below from.there in
    let same : place cols g ≡ from.source = first_place cols from.source g distinct low from.image in
    let in_cols : stands g cols ≡ true = stands-at cols g from.source low from.image in
    let in_row : stands (place cols g) row ≡ true = ap (λ c. stands c row) same ∙ from.there in
    record { known = place-index cols g in_cols; index = (placed cols g in_cols).index; low = (placed cols g in_cols).within; at = placed row (place cols g) in_row; there = place-index row (place cols g) in_row }

-- distinct local columns are distinct global ones
index-distinct : (cols row : List ℕ) → AreDistinct cols → AreDistinct row → AreBelow (length cols) row → AreDistinct (map (index_at cols) row)
index-distinct cols [] distinct d below = tt
index-distinct cols (c ∷ row) distinct d below = (off, index-distinct cols row distinct d.1 below.1)
  where
    off : stands (index_at cols c) (map (index_at cols) row) ≡ false
    off = elim (cases_Bool (stands (index_at cols c) (map (index_at cols) row))) [
      | inl on ↦
          let from = stands-from_map (index_at cols) row (index_at cols c) on in
          let low = below-stands (length cols) row from.source below.1 from.there in
          let same : from.source ≡ c = sym (first_place cols from.source (index_at cols c) distinct low from.image) ∙ first_place cols c (index_at cols c) distinct below.0 refl in
          let again : stands c row ≡ true = ap (λ k. stands k row) (sym same) ∙ from.there in
          let none = d.0 in
          absurd (cc)
      | inr none ↦ none
    ]

-- ---- columns with their numbers

module _ {S : Type 0} (number : ℕ → Option S) where
  always : (b : Bool) → (b || true) ≡ true
  always true = refl
  always false = refl

  later : (g : ℕ) (gs : List ℕ) → ((k : ℕ) → stands k (g ∷ gs) ≡ true → is_some (number k) ≡ true) → (k : ℕ) → stands k gs ≡ true → is_some (number k) ≡ true
  later g gs h k on = h k (ap (λ b. g == k || b) on ∙ always (g == k))

  here : (g : ℕ) (gs : List ℕ) → ((k : ℕ) → stands k (g ∷ gs) ≡ true → is_some (number k) ≡ true) → is_some (number g) ≡ true
  here g gs h = h g (stands-at (g ∷ gs) g 0 (omega arith) refl)

  columns-cells_with : (gs : List ℕ) → ((k : ℕ) → stands k gs ≡ true → is_some (number k) ≡ true) → columns_in (cells_with number gs) ≡ gs
  columns-cells_with [] h = refl
  columns-cells_with (g ∷ gs) h = go (number g) (here g gs h) (columns-cells_with gs (later g gs h))
    where
      go : (o : Option S) → is_some o ≡ true → columns_in (cells_with number gs) ≡ gs → columns_in (cell_before g o (cells_with number gs)) ≡ g ∷ gs
      go None t rest = absurd (cc)
      go (Some v) t rest = ap (λ ks. g ∷ ks) rest

  number-cells_with : (gs : List ℕ) (j : ℕ) → ((k : ℕ) → stands k gs ≡ true → is_some (number k) ≡ true) → number_at (cells_with number gs) j ≡ cond (stands j gs) (number j) None
  number-cells_with [] j h = refl
  number-cells_with (g ∷ gs) j h = go (number g) (g == j) refl refl (here g gs h) (number-cells_with gs j (later g gs h))
    where
      go : (o : Option S) (b : Bool) → number g ≡ o → (g == j) ≡ b → is_some o ≡ true → number_at (cells_with number gs) j ≡ cond (stands j gs) (number j) None
          → number_at (cell_before g o (cells_with number gs)) j ≡ cond (g == j || stands j gs) (number j) None
      go None b e f t rest = absurd (cc)
      go (Some v) true e f t rest = (λ i. cond (f i) (Some v) (number_at (cells_with number gs) j)) ∙ sym e ∙ ap number (eqb-true g j f) ∙ sym (ap (λ b. cond (b || stands j gs) (number j) None) f)
      go (Some v) false e f t rest = (λ i. cond (f i) (Some v) (number_at (cells_with number gs) j)) ∙ rest ∙ sym (ap (λ b. cond (b || stands j gs) (number j) None) f)

  cell-cells_with : (gs : List ℕ) → ((k : ℕ) → stands k gs ≡ true → is_some (number k) ≡ true) → (i : ℕ) (v : S) → i < length gs → number (get_or gs i 0) ≡ Some v
      → slice_get (cells_with number gs) i ≡ Some (get_or gs i 0, v)
  cell-cells_with [] h i v low e = absurd (omega arith)
  cell-cells_with (g ∷ gs) h zero v low e = ap (λ o. slice_get (cell_before g o (cells_with number gs)) 0) e
  cell-cells_with (g ∷ gs) h (suc i) v low e = go (number g) (here g gs h) (cell-cells_with gs (later g gs h) i v (omega arith) e)
    where
      go : (o : Option S) → is_some o ≡ true → slice_get (cells_with number gs) i ≡ Some (get_or gs i 0, v) → slice_get (cell_before g o (cells_with number gs)) (suc i) ≡ Some (get_or gs i 0, v)
      go None t rest = absurd (cc)
      go (Some w) t rest = rest

-- ---- rows of a matrix

module _ {S : Type 0} (m : Crs S) (is : IsCrs m) where
  at_column : (l g : ℕ) → stands g (row_gids m l) ≡ true → IsColumnAt m.graph.cols (graph_row m.graph l) g
  at_column l g on = column-at m.graph.cols (graph_row m.graph l) g is.graph.distinct (is.graph.within l) on

  number-is : (l g : ℕ) → stands g (row_gids m l) ≡ true → number_in_row m l g ≡ slice_get (numbers m l) (place (graph_row m.graph l) (place m.graph.cols g))
  number-is l g on = ap (crs_number m (Some l)) (at_column l g on).known ∙ ap (number_at_place (numbers m l)) (at_column l g on).there

  number-there : (l g : ℕ) → stands g (row_gids m l) ≡ true → is_some (number_in_row m l g) ≡ true
  number-there l g on =
      ap is_some (number-is l g on)
      ∙ slice_get-there (numbers m l) (place (graph_row m.graph l) (place m.graph.cols g)) (let low = (at_column l g on).at.within in let many = is.as_many l in omega arith)

  number-lacked : (l g : ℕ) → stands g (row_gids m l) ≡ false → number_in_row m l g ≡ None
  number-lacked l g off = go (local_index m.graph.cols g) refl
    where
      in_row : (c : ℕ) (p : Option ℕ) → local_index m.graph.cols g ≡ Some c → local_index (graph_row m.graph l) c ≡ p → number_at_place (numbers m l) p ≡ None
      in_row c None e f = refl
      in_row c (Some p) e f =
          let at : index_at m.graph.cols c ≡ g = get_or_from_slice_get m.graph.cols c g 0 (global_index-from m.graph.cols g c e) in
          let mapped = stands-to_map (index_at m.graph.cols) (graph_row m.graph l) c (some_stands (graph_row m.graph l) c p f) in
          let on : stands g (row_gids m l) ≡ true = stands-ascending (map (index_at m.graph.cols) (graph_row m.graph l)) g ∙ ap (λ k. stands k (map (index_at m.graph.cols) (graph_row m.graph l))) (sym at) ∙ mapped in
          absurd (cc)

      go : (o : Option ℕ) → local_index m.graph.cols g ≡ o → crs_number m (Some l) o ≡ None
      go None e = refl
      go (Some c) e = in_row c (local_index (graph_row m.graph l) c) e refl

  columns-are : (l : ℕ) → columns_in (crs_cells m l) ≡ row_gids m l
  columns-are l = columns-cells_with (number_in_row m l) (row_gids m l) (number-there l)

  row-ascends : (l : ℕ) → IsAscending (columns_in (crs_cells m l))
  row-ascends l = subst IsAscending (sym (columns-are l)) (ascending-ascends (map (index_at m.graph.cols) (graph_row m.graph l)))

  cells-are : (l : ℕ) → l < length m.graph.rows → get_or (by_row m).cells l [] ≡ crs_cells m l
  cells-are l low = get_or-map-range_with_len (crs_cells m) 0 (length m.graph.rows) l l [] low (omega arith)

  cells-each : length (by_row m).cells ≡ length m.graph.rows
  cells-each = length-map-range_with_len (crs_cells m) 0 (length m.graph.rows)

  pub by_row-kept : IsRowCells (by_row m)
  by_row-kept = record {
    each = cells-each;
    ascend = λ l. elim (cases_lt l (length m.graph.rows)) [
      | inl low ↦ subst (λ cs. IsAscending (columns_in cs)) (sym (cells-are l low)) (row-ascends l)
      | inr past ↦ subst (λ cs. IsAscending (columns_in cs)) (sym (get_or_past (by_row m).cells l [] (let many = cells-each in omega arith))) tt
    ];
  }

  pub by_row-table : row_table (by_row m) ≡ crs_table m
  by_row-table = λ t i j. go i j (local_index m.graph.rows i) refl t
    where
      number : (l j : ℕ) (b : Bool) → stands j (row_gids m l) ≡ b → cond b (number_in_row m l j) None ≡ number_in_row m l j
      number l j true e = refl
      number l j false e = sym (number-lacked l j e)

      go : (i j : ℕ) (o : Option ℕ) → local_index m.graph.rows i ≡ o → number_in (by_row m) o j ≡ crs_number m o (local_index m.graph.cols j)
      go i j None e = refl
      go i j (Some l) e =
          ap (λ cs. number_at cs j) (cells-are l (slice_get_within m.graph.rows l i (global_index-from m.graph.rows i l e)))
          ∙ number-cells_with (number_in_row m l) (row_gids m l) j (number-there l)
          ∙ number l j (stands j (row_gids m l)) refl

  -- ---- entries

  pub crs-known : (lid : ℕ) → lid < length (row_entries (by_row m)) → lid < length m.graph.rows
  crs-known lid known = known-row (by_row m) lid known

  pub crs-entry : (lid : ℕ) → lid < length (row_entries (by_row m)) → entry_at (row_entries (by_row m)) lid ≡ record { gid = get_or m.graph.rows lid 0; cells = crs_cells m lid }
  crs-entry lid known =
      entry-of m.graph.rows (by_row m).cells lid cells-each (crs-known lid known)
      ∙ ap (λ cs. record { gid = get_or m.graph.rows lid 0; cells = cs }) (cells-are lid (crs-known lid known))

  gids-count : (l : ℕ) → length (row_gids m l) ≡ length (graph_row m.graph l)
  gids-count l =
      length-ascending (map (index_at m.graph.cols) (graph_row m.graph l)) (index-distinct m.graph.cols (graph_row m.graph l) is.graph.distinct (AreDistinct-ascending (graph_row m.graph l) (is.graph.ascend l)) (is.graph.within l))
      ∙ length-map (graph_row m.graph l) (index_at m.graph.cols)

  pub crs-count : (lid : ℕ) → lid < length (row_entries (by_row m)) → length (entry_at (row_entries (by_row m)) lid).cells ≡ length (graph_row m.graph lid)
  crs-count lid known =
      ap (λ n. length n.cells) (crs-entry lid known)
      ∙ sym (length-map (crs_cells m lid) (λ c. c.0))
      ∙ ap length (columns-are lid)
      ∙ gids-count lid

  pub order-count : (l : ℕ) → length (by_index m.graph.cols (graph_row m.graph l)) ≡ length (graph_row m.graph l)
  order-count l = length-map (row_gids m l) (λ g. place (graph_row m.graph l) (place m.graph.cols g)) ∙ gids-count l

  pub crs-ascending : (lid : ℕ) → lid < length (row_entries (by_row m)) → IsStrictlyIncreasing (columns_of (entry_at (row_entries (by_row m)) lid))
  crs-ascending lid known =
      let P : List ℕ → Type 0 = IsStrictlyIncreasing in
      subst P (sym (ap columns_of (crs-entry lid known))) (IsStrictlyIncreasing-ascending (columns_in (crs_cells m lid)) (row-ascends lid))

  module _ (lid at p : ℕ) (known : lid < length (row_entries (by_row m))) (low : at < length (entry_at (row_entries (by_row m)) lid).cells) (place_is : p ≡ get_or (by_index m.graph.cols (graph_row m.graph lid)) at 0) where
    at_low : at < length (row_gids m lid)
    at_low = let a = crs-count lid known in let b = gids-count lid in omega arith

    on : stands (get_or (row_gids m lid) at 0) (row_gids m lid) ≡ true
    on = stands-at (row_gids m lid) (get_or (row_gids m lid) at 0) at at_low refl

    column : IsColumnAt m.graph.cols (graph_row m.graph lid) (get_or (row_gids m lid) at 0)
    column = at_column lid (get_or (row_gids m lid) at 0) on

    p-is : p ≡ place (graph_row m.graph lid) (place m.graph.cols (get_or (row_gids m lid) at 0))
    p-is = place_is ∙ get_or-map (λ g. place (graph_row m.graph lid) (place m.graph.cols g)) (row_gids m lid) at 0 0 at_low

    pub cell-within : p < length (graph_row m.graph lid)
    cell-within = let a = p-is in let b = column.at.within in omega arith

    col-is : get_or (graph_row m.graph lid) p 0 ≡ place m.graph.cols (get_or (row_gids m lid) at 0)
    col-is = ap (λ k. get_or (graph_row m.graph lid) k 0) p-is ∙ column.at.index

    pub cell-known : get_or (graph_row m.graph lid) p 0 < length m.graph.cols
    cell-known = let a = col-is in let b = column.low in omega arith

    pub crs-cell : (col k : ℕ) (v : S) → col ≡ get_or (graph_row m.graph lid) p 0 → slice_get m.graph.cols col ≡ Some k → v ≡ get_or (numbers m lid) p v
        → slice_get (entry_at (row_entries (by_row m)) lid).cells at ≡ Some (k, v)
    crs-cell col k v col_of at_col value =
        let same : get_or (row_gids m lid) at 0 ≡ k = sym column.index ∙ ap (index_at m.graph.cols) (sym col-is ∙ sym col_of) ∙ get_or_from_slice_get m.graph.cols col k 0 at_col in
        let there : number_in_row m lid (get_or (row_gids m lid) at 0) ≡ Some v = number-is lid (get_or (row_gids m lid) at 0) on ∙ ap (slice_get (numbers m lid)) (sym p-is)
        ∙ slice_get-get_or (numbers m lid) p v (let a = cell-within in let b = is.as_many lid in omega arith) ∙ ap Some (sym value) in
        ap (λ n. slice_get n.cells at) (crs-entry lid known)
        ∙ cell-cells_with (number_in_row m lid) (row_gids m lid) (number-there lid) at v at_low there
        ∙ ap (λ g. Some (g, v)) same
