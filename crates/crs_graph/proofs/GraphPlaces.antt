-- The places of a structure are those of the rows that it was made of.
use Rattle.std.proofs.Common.{◌≡◌, ℕ, true, false, List, [], length, get_or, map, cond, nat_lt, Option, Some, None, inl, inr, refl, sym, ap, ◌∙◌, subst, arith}
use Rattle.std.specs.List.{concat}
use Rattle.std.proofs.lemmas.Bool.{cases_Bool, cases_lt}
use Rattle.std.proofs.lemmas.Bool.Decides.{nat_tests}
use Rattle.std.proofs.lemmas.List.{get_or_past, get_or-map, length-map}
use Rattle.std.proofs.lemmas.Option.{slice_get_within, get_or_from_slice_get}
use Rattle.map_core.specs.Classes.{index_at, place}
use Rattle.map_core.specs.Layouts.{local_index, stands}
use Rattle.map_core.proofs.Members.{stands-concat}
use Rattle.map_core.proofs.Places.{global_index-from}
use Rattle.crs_graph.specs.Ascending.{ascending}
use Rattle.crs_graph.specs.Fills.{has_local, has_place, row_columns, Fill}
use Rattle.crs_graph.specs.Graphs.{graph_has, has_local_place, local_columns, Graph, IsCompleted}
use Rattle.crs_graph.specs.ColumnMaps.{IsColumnList}
use Rattle.crs_graph.proofs.Ascending.{stands-at}
use Rattle.crs_graph.proofs.Compressed.{AreRows}
use Rattle.crs_graph.proofs.LocalColumns.{local-has, placed}

-- an index that has a local index stands there
pub some_stands : (xs : List ℕ) (g l : ℕ) → local_index xs g ≡ Some l → stands g xs ≡ true
some_stands xs g l e =
    let there = global_index-from xs g l e in
    stands-at xs g l (slice_get_within xs l g there) (get_or_from_slice_get xs l g 0 there)

-- an index that has no local index does not stand there
pub none_stands : (xs : List ℕ) (g : ℕ) → local_index xs g ≡ None → stands g xs ≡ false
none_stands xs g none = elim (cases_Bool (stands g xs)) [
  | inl on ↦
      let low = (placed xs g on).within in
      let there : nat_lt (place xs g) (length xs) ≡ true = grind (arith, nat_tests) in
      let some : local_index xs g ≡ Some (place xs g) = ap (λ b. cond b (Some (place xs g)) None) there in
      absurd (cc)
  | inr off ↦ off
]

pub graph_has-places : (f : Fill) (g : Graph) (domain owners : List ℕ) → length f.columns ≡ length f.rows → IsCompleted f.rows f.columns domain owners g
    → (row col : ℕ) → graph_has g row col ≡ has_place f row col
graph_has-places f g domain owners many made row col =
    ap (λ xs. has_local_place g (local_index xs row) (local_index g.cols col)) made.row_list ∙ go (local_index f.rows row) (local_index g.cols col) refl refl
  where
    row_known : (l : ℕ) → stands col (row_columns f l) ≡ true → stands col g.cols ≡ true
    row_known l on = made.same col ∙ stands-concat col f.columns l on

    go : (o p : Option ℕ) → local_index f.rows row ≡ o → local_index g.cols col ≡ p → has_local_place g o p ≡ has_local f o col
    go None p e d = refl
    go (Some l) None e d = elim (cases_Bool (stands col (row_columns f l))) [
      | inl on ↦ let off = none_stands g.cols col d in let here = row_known l on in absurd (cc)
      | inr off ↦ sym off
    ]
    go (Some l) (Some c) e d =
        let there = global_index-from g.cols col c d in
        made.places l c (slice_get_within g.cols c col there)
        ∙ ap (λ k. stands k (row_columns f l)) (get_or_from_slice_get g.cols c col 0 there)

-- rows on a column map that has their columns
pub completed : (rows : List ℕ) (columns : List (List ℕ)) (domain owners cols : List ℕ) (g : Graph) → AreRows cols columns
    → IsColumnList domain (ascending (concat columns)) owners cols → ((k : ℕ) → stands k cols ≡ stands k (concat columns))
    → g ≡ record { rows = rows; cols = cols; columns = map (local_columns cols) columns } → IsCompleted rows columns domain owners g
completed rows columns domain owners cols g h list same is = subst (IsCompleted rows columns domain owners) (sym is) (record {
  row_list = refl;
  col_list = list;
  once = h.distinct;
  same = same;
  places = λ l c low. elim (cases_lt l (length columns)) [
    | inl within ↦
        ap (stands c) (get_or-map (local_columns cols) columns l [] [] within)
        ∙ local-has cols h.distinct (get_or columns l []) (λ g on. h.known g (stands-concat g columns l on)) c low
    | inr past ↦
        let many = length-map columns (local_columns cols) in
        ap (stands c) (get_or_past (map (local_columns cols) columns) l [] (omega arith))
        ∙ ap (stands (index_at cols c)) (sym (get_or_past columns l [] past))
  ];
})
