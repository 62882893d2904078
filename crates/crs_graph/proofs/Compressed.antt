-- Compressed rows.
use Rattle.std.proofs.Common.{◌≡◌, ℕ, suc, ◌+◌, ◌<◌, ◌≤◌, true, List, [], length, get_or, map, inl, inr, sym, ap, ◌∙◌, subst, arith}
use Rattle.std.specs.List.{concat}
use Rattle.std.proofs.lemmas.Bool.{cases_lt}
use Rattle.std.proofs.lemmas.List.{get_or_past, get_or-map, length-map}
use Rattle.std.proofs.lemmas.List.Concat.{concat_is}
use Rattle.map_core.specs.Classes.{place, places}
use Rattle.map_core.specs.Layouts.{stands, AreDistinct}
use Rattle.map_core.proofs.Members.{stands-concat}
use Rattle.tables.specs.Indices.{AreBelow}
use Rattle.crs_graph.specs.Ascending.{ascending, IsAscending}
use Rattle.crs_graph.specs.Graphs.{by_index, local_columns, Graph, IsGraph}
use Rattle.crs_graph.specs.Kept.{graph_of, IsKept}
use Rattle.crs_graph.specs.Packed.{joined, offsets_of, slices, IsPacked}
use Rattle.crs_graph.proofs.AllColumns.{ascending-ascends}
use Rattle.crs_graph.proofs.Ascending.{AreDistinct-ascending}
use Rattle.crs_graph.proofs.LocalColumns.{ascending-count, by_index-local, length-ascending, local-below, places-distinct}
use Rattle.crs_graph.proofs.Packed.{joined-map, length-slices, map-map, offset-next, offset-within, map_rows, offsets-map, slices-packed, IsPacked-of}

-- what holds of each row that is made of one, and of no row
pub each_row : {A : Type 0} (P : List A → Type 0) (f : List ℕ → List A) (rs : List (List ℕ)) → P [] → ((l : ℕ) → P (f (get_or rs l []))) → (l : ℕ) → P (get_or (map f rs) l [])
each_row P f rs none h l = elim (cases_lt l (length rs)) [
  | inl low ↦ subst P (sym (get_or-map f rs l [] [] low)) (h l)
  | inr high ↦ let many = length-map rs f in subst P (sym (get_or_past (map f rs) l [] (omega arith))) none
]

pub sorted_same : {os ps xs ys : List ℕ} → os ≡ ps → xs ≡ ys → joined (map ascending (slices os xs)) ≡ joined (map ascending (slices ps ys))
sorted_same e f t = joined (map ascending (slices (e t) (f t)))

pub ordered_same : {os ps xs ys : List ℕ} → os ≡ ps → xs ≡ ys
    → joined (map (λ row. places (ascending row) row) (slices os xs)) ≡ joined (map (λ row. places (ascending row) row) (slices ps ys))
ordered_same e f t = joined (map (λ row. places (ascending row) row) (slices (e t) (f t)))

-- rows of global columns, all of which are in the column map
pub record AreRows (cols : List ℕ) (rs : List (List ℕ)) : Type 0 where
  pub distinct : AreDistinct cols
  pub ascend : (l : ℕ) → IsAscending (get_or rs l [])
  pub known : (g : ℕ) → stands g (concat rs) ≡ true → stands g cols ≡ true

module _ (cols : List ℕ) (rs : List (List ℕ)) (h : AreRows cols rs) where
  row_known : (l g : ℕ) → stands g (get_or rs l []) ≡ true → stands g cols ≡ true
  row_known l g on = h.known g (stands-concat g rs l on)

  -- the rows of local indices, as they come
  abbrev pub came : List (List ℕ)
  came = map (places cols) rs

  length-places : (gs : List ℕ) → length (places cols gs) ≡ length gs
  length-places gs = length-map gs (place cols)

  came_offsets : offsets_of came ≡ offsets_of rs
  came_offsets = offsets-map (places cols) rs (λ l low. length-places (get_or rs l []))

  came_distinct : (l : ℕ) → AreDistinct (get_or came l [])
  came_distinct l = each_row AreDistinct (places cols) rs tt (λ l. places-distinct cols (get_or rs l []) (AreDistinct-ascending (get_or rs l []) (h.ascend l)) (row_known l)) l

  -- each ascending
  abbrev pub stored : List (List ℕ)
  stored = map (local_columns cols) rs

  pub stored_is : map ascending came ≡ stored
  stored_is = map-map ascending (places cols) rs

  stored_offsets : offsets_of stored ≡ offsets_of rs
  stored_offsets = ap offsets_of (sym stored_is) ∙ offsets-map ascending came (λ l low. length-ascending (get_or came l []) (came_distinct l)) ∙ came_offsets

  pub stored_ascend : (l : ℕ) → IsAscending (get_or stored l [])
  stored_ascend l = each_row IsAscending (local_columns cols) rs tt (λ l. ascending-ascends (places cols (get_or rs l []))) l

  pub stored_below : (l : ℕ) → AreBelow (length cols) (get_or stored l [])
  stored_below l = each_row (AreBelow (length cols)) (local_columns cols) rs tt (λ l. local-below cols (get_or rs l []) (row_known l)) l

  pub stored_count : (l : ℕ) → length (get_or stored l []) ≤ length cols
  stored_count l = ascending-count (length cols) (get_or stored l []) (stored_ascend l) (stored_below l)

  -- the places in ascending order of global columns
  abbrev pub ordered : List (List ℕ)
  ordered = map (λ row. places (ascending row) row) came

  ordered_is : ordered ≡ map (by_index cols) stored
  ordered_is =
      map-map (λ row. places (ascending row) row) (places cols) rs
      ∙ map_rows (λ gs. places (local_columns cols gs) (places cols gs)) (λ gs. by_index cols (local_columns cols gs)) rs
      (λ l low. sym (by_index-local cols h.distinct (get_or rs l []) (h.ascend l) (row_known l)))
      ∙ sym (map-map (by_index cols) (local_columns cols) rs)

  ordered_offsets : offsets_of ordered ≡ offsets_of rs
  ordered_offsets = offsets-map (λ row. places (ascending row) row) came (λ l low. length-map (get_or came l []) (place (ascending (get_or came l [])))) ∙ came_offsets

  -- in lists
  module _ (os gids locals : List ℕ) (begin : os ≡ offsets_of rs) (all : gids ≡ concat rs) (found : locals ≡ places cols gids) where
    came_all : locals ≡ joined came
    came_all = found ∙ ap (places cols) (all ∙ concat_is rs) ∙ joined-map (place cols) rs

    pub came_packed : IsPacked os locals
    came_packed = IsPacked-of os locals came (begin ∙ sym came_offsets) came_all

    pub came_rows : slices os locals ≡ came
    came_rows = slices-packed os locals came (begin ∙ sym came_offsets) came_all

    pub came_each : (l : ℕ) → AreDistinct (get_or (slices os locals) l [])
    came_each l = subst (λ qs. AreDistinct (get_or qs l [])) (sym came_rows) (came_distinct l)

    module _ (columns : List ℕ) (sorted : columns ≡ joined (map ascending (slices os locals))) where
      stored_all : columns ≡ joined stored
      stored_all = sorted ∙ ap (λ qs. joined (map ascending qs)) came_rows ∙ ap joined stored_is

      pub stored_packed : IsPacked os columns
      stored_packed = IsPacked-of os columns stored (begin ∙ sym stored_offsets) stored_all

      pub stored_rows : slices os columns ≡ stored
      stored_rows = slices-packed os columns stored (begin ∙ sym stored_offsets) stored_all

      pub stored_sorted : slices os columns ≡ map ascending (slices os locals)
      stored_sorted = stored_rows ∙ sym stored_is ∙ ap (map ascending) (sym came_rows)

      pub stored_few : (n : ℕ) → length cols < n → (l : ℕ) → length (get_or (slices os columns) l []) < n
      stored_few n low l = let count = stored_count l in let same = ap (λ qs. length (get_or qs l [])) stored_rows in omega arith

      is_graph : (rows : List ℕ) → length rs ≡ length rows → IsGraph (record { rows = rows; cols = cols; columns = slices os columns })
      is_graph rows many = record {
        rows = ap length stored_rows ∙ length-map rs (local_columns cols) ∙ many;
        distinct = h.distinct;
        ascend = λ l. subst (λ qs. IsAscending (get_or qs l [])) (sym stored_rows) (stored_ascend l);
        within = λ l. subst (λ qs. AreBelow (length cols) (get_or qs l [])) (sym stored_rows) (stored_below l);
      }

      module _ (order : List ℕ) (placed : order ≡ joined (map (λ row. places (ascending row) row) (slices os locals))) where
        ordered_all : order ≡ joined ordered
        ordered_all = placed ∙ ap (λ qs. joined (map (λ row. places (ascending row) row) qs)) came_rows

        ordered_packed : IsPacked os order
        ordered_packed = IsPacked-of os order ordered (begin ∙ sym ordered_offsets) ordered_all

        ordered_rows : slices os order ≡ map (by_index cols) (slices os columns)
        ordered_rows = slices-packed os order ordered (begin ∙ sym ordered_offsets) ordered_all ∙ ordered_is ∙ ap (map (by_index cols)) (sym stored_rows)

        pub is_kept : (rows : List ℕ) → length rs ≡ length rows → IsKept rows cols os columns order
        is_kept rows many = record { packed = stored_packed; order_packed = ordered_packed; order_rows = ordered_rows; graph = is_graph rows many }

-- in a structure each row has an offset, and there is one more
pub offset_count : (rows cols os columns order : List ℕ) (g : Graph) (l : ℕ) → IsKept rows cols os columns order → graph_of rows cols os columns ≡ g → l < length g.rows → l + 1 < length os
offset_count rows cols os columns order g l kept is low =
    let many = length-slices os columns kept.packed in
    let as_many = kept.graph.rows in
    let same = ap (λ g. length g.rows) is in
    omega arith

-- and ends within the list of all columns
pub offset_bound : (rows cols os columns order : List ℕ) (g : Graph) (l : ℕ) → IsKept rows cols os columns order → graph_of rows cols os columns ≡ g → l < length g.rows
    → get_or (offsets_of g.columns) l 0 + length (get_or g.columns l []) ≤ length columns
offset_bound rows cols os columns order g l kept is low =
    let as_many = kept.graph.rows in
    let same = ap (λ g. length g.rows) is in
    let rs = slices os columns in
    let next = offset-next 0 rs l (omega arith) in
    let most = offset-within 0 rs (suc l) (omega arith) in
    let all = ap length kept.packed.all in
    let within : get_or (offsets_of rs) l 0 + length (get_or rs l []) ≤ length columns = omega arith in
    subst (λ qs. get_or (offsets_of qs) l 0 + length (get_or qs l []) ≤ length columns) (ap (λ g. g.columns) is) within

pub columns_count : (rows cols os columns order : List ℕ) (g : Graph) → IsKept rows cols os columns order → graph_of rows cols os columns ≡ g → length columns ≡ length (joined g.columns)
columns_count rows cols os columns order g kept is = ap length kept.packed.all ∙ ap (λ g. length (joined g.columns)) is

pub order_at : (rows cols os columns order : List ℕ) (g : Graph) (l : ℕ) → IsKept rows cols os columns order → graph_of rows cols os columns ≡ g → l < length g.rows
    → get_or (slices os order) l [] ≡ by_index g.cols (get_or g.columns l [])
order_at rows cols os columns order g l kept is low =
    let as_many = kept.graph.rows in
    let same = ap (λ g. length g.rows) is in
    ap (λ qs. get_or qs l []) kept.order_rows
    ∙ get_or-map (by_index cols) (slices os columns) l [] [] (omega arith)
    ∙ ap (λ g. by_index g.cols (get_or g.columns l [])) is
