-- The numbers of compressed rows are those of the rows under construction.
use Rattle.std.proofs.Common.{◌≡◌, ℕ, zero, suc, ◌<◌, Bool, true, false, ◌||◌, ◌==◌, cond, List, [], ◌∷◌, ◌++◌, length, get_or, take, drop, map, slice_get, is_some, Option, Some, None, inl, inr, refl, sym, ap, ◌∙◌, arith, length-append}
use Rattle.std.specs.Option.{option_map}
use Rattle.std.proofs.lemmas.Bool.{cases_Bool}
use Rattle.std.proofs.lemmas.List.{length-map}
use Rattle.std.proofs.lemmas.Option.{get_or_from_slice_get, slice_get_within}
use Rattle.std.proofs.Math.Seq.{drop-append_seam, take-append_seam}
use Rattle.map_core.specs.Classes.{index_at}
use Rattle.map_core.specs.Layouts.{local_index, stands}
use Rattle.map_core.proofs.Members.{stands-concat}
use Rattle.map_core.proofs.Places.{global_index-from}
use Rattle.crs_graph.specs.Graphs.{graph_row, Graph, IsCompleted, IsGraph}
use Rattle.crs_graph.specs.Packed.{joined}
use Rattle.crs_graph.proofs.GraphPlaces.{none_stands}
use Rattle.crs_matrix.specs.Completed.{row_numbers, stored_rows}
use Rattle.crs_matrix.specs.Matrices.{crs_number, crs_table, number_at_place, number_rows, numbers}
use Rattle.crs_matrix.specs.Rows.{columns_in, number_at, number_in, row_table, RowCells}
use Rattle.crs_matrix.specs.Stored.{columns_at}
use Rattle.crs_matrix.specs.declared.places.Place.{Place}
use Rattle.crs_matrix.proofs.CrsTables.{crs_of, row-map, slice_get-map}
use Rattle.crs_matrix.proofs.NumberRows.{number_rows-map}

-- rows of numbers, one for each row of columns
module _ {S : Type 0} (cols : List ℕ) where
  length-row : (row : List ℕ) (cells : List (ℕ × S)) → length (row_numbers cols row cells) ≡ length row
  length-row row cells = length-map row (λ c. number_at cells (index_at cols c))

  pub length-stored : (rs : List (List ℕ)) (cs : List (List (ℕ × S))) → length cs ≡ length rs → length (stored_rows cols rs cs) ≡ length rs
  length-stored [] cs same = refl
  length-stored (r ∷ rs) [] same = absurd (omega arith)
  length-stored (r ∷ rs) (c ∷ cs) same = ap suc (length-stored rs cs (omega arith))

  pub stored-at : (rs : List (List ℕ)) (cs : List (List (ℕ × S))) (l : ℕ) → l < length rs → length cs ≡ length rs
      → get_or (stored_rows cols rs cs) l [] ≡ row_numbers cols (get_or rs l []) (get_or cs l [])
  stored-at [] cs l low same = absurd (omega arith)
  stored-at (r ∷ rs) [] l low same = absurd (omega arith)
  stored-at (r ∷ rs) (c ∷ cs) zero low same = refl
  stored-at (r ∷ rs) (c ∷ cs) (suc l) low same = stored-at rs cs l (omega arith) (omega arith)

  pub joined-stored : (rs : List (List ℕ)) (cs : List (List (ℕ × S))) → length cs ≡ length rs → length (joined (stored_rows cols rs cs)) ≡ length (joined rs)
  joined-stored [] cs same = refl
  joined-stored (r ∷ rs) [] same = absurd (omega arith)
  joined-stored (r ∷ rs) (c ∷ cs) same =
      let rest = joined-stored rs cs (omega arith) in
      let first = length-row r c in
      let one = length-append (row_numbers cols r c) (joined (stored_rows cols rs cs)) in
      let two = length-append r (joined rs) in
      omega arith

  pub number_rows-stored : (rs : List (List ℕ)) (cs : List (List (ℕ × S))) → length cs ≡ length rs → number_rows rs (joined (stored_rows cols rs cs)) ≡ stored_rows cols rs cs
  number_rows-stored [] cs same = refl
  number_rows-stored (r ∷ rs) [] same = absurd (omega arith)
  number_rows-stored (r ∷ rs) (c ∷ cs) same =
      let first = row_numbers cols r c in
      let rest = joined (stored_rows cols rs cs) in
      let taken = ap (λ n. take n (first ++ rest)) (sym (length-row r c)) ∙ take-append_seam first rest in
      let left = ap (λ n. drop n (first ++ rest)) (sym (length-row r c)) ∙ drop-append_seam first rest in
      (λ t. taken t ∷ number_rows rs (left t)) ∙ ap (λ xs. first ∷ xs) (number_rows-stored rs cs (omega arith))

-- a column that has no cell
pub no_number : {S : Type 0} (cells : List (ℕ × S)) (j : ℕ) → stands j (columns_in cells) ≡ false → number_at cells j ≡ None
no_number [] j off = refl
no_number (c ∷ cs) j off = by (c.0 == j) (no_number cs j) off
  where
    by : (b : Bool) → (stands j (columns_in cs) ≡ false → number_at cs j ≡ None) → (b || stands j (columns_in cs)) ≡ false → cond b (Some c.1) (number_at cs j) ≡ None
    by true more off = absurd (cc)
    by false more off = more off

pub has_number : {S : Type 0} (cells : List (ℕ × S)) (j : ℕ) → stands j (columns_in cells) ≡ true → is_some (number_at cells j) ≡ true
has_number [] j on = absurd (cc)
has_number (c ∷ cs) j on = by (c.0 == j) (has_number cs j) on
  where
    by : (b : Bool) → (stands j (columns_in cs) ≡ true → is_some (number_at cs j) ≡ true) → (b || stands j (columns_in cs)) ≡ true → is_some (cond b (Some c.1) (number_at cs j)) ≡ true
    by true more on = refl
    by false more on = more on

-- the columns of one of several rows of places
pub columns-places : (ps : List (List Place)) (l : ℕ) → get_or (map columns_at ps) l [] ≡ columns_at (get_or ps l [])
columns-places [] l = refl
columns-places (p ∷ ps) zero = refl
columns-places (p ∷ ps) (suc l) = columns-places ps l

columns-row : {S : Type 0} (cs : List (List (ℕ × S))) (l : ℕ) → get_or (map columns_in cs) l [] ≡ columns_in (get_or cs l [])
columns-row [] l = refl
columns-row (c ∷ cs) zero = refl
columns-row (c ∷ cs) (suc l) = columns-row cs l

same_some : {S : Type 0} (o p : Option S) → option_map Some o ≡ Some p → o ≡ p
same_some None p e = absurd (cc)
same_some (Some v) p e = cc

module _ {S : Type 0} (a : RowCells S) (g : Graph) (domain owners : List ℕ) (stored : List S) (kept : length a.cells ≡ length a.rows) (graph : IsGraph g)
    (made : IsCompleted a.rows (map columns_in a.cells) domain owners g) (same : map Some stored ≡ joined (stored_rows g.cols g.columns a.cells)) where
  as_many : length a.cells ≡ length g.columns
  as_many = let one = graph.rows in let two = ap length made.row_list in omega arith

  pub stored-count : length stored ≡ length (joined g.columns)
  stored-count = sym (length-map stored Some) ∙ ap length same ∙ joined-stored g.cols g.columns a.cells as_many

  rows-are : map (map Some) (number_rows g.columns stored) ≡ stored_rows g.cols g.columns a.cells
  rows-are = sym (number_rows-map Some g.columns stored) ∙ ap (number_rows g.columns) same ∙ number_rows-stored g.cols g.columns a.cells as_many

  row-is : (l : ℕ) → l < length g.columns → map Some (numbers (crs_of g stored) l) ≡ row_numbers g.cols (graph_row g l) (get_or a.cells l [])
  row-is l low = sym (row-map Some (number_rows g.columns stored) l) ∙ ap (λ rs. get_or rs l []) rows-are ∙ stored-at g.cols g.columns a.cells l low as_many

  lacked : (l j : ℕ) → stands j g.cols ≡ false → number_at (get_or a.cells l []) j ≡ None
  lacked l j off = no_number (get_or a.cells l []) j (elim (cases_Bool (stands j (columns_in (get_or a.cells l [])))) [
    | inl on ↦
        let here = stands-concat j (map columns_in a.cells) l (ap (stands j) (columns-row a.cells l) ∙ on) in
        let there = made.same j in
        absurd (cc)
    | inr none ↦ none
  ])

  in_row : (l c j : ℕ) (q : Option ℕ) → l < length g.columns → c < length g.cols → index_at g.cols c ≡ j → local_index (graph_row g l) c ≡ q
      → number_at_place (numbers (crs_of g stored) l) q ≡ number_at (get_or a.cells l []) j
  in_row l c j None low within at e =
      sym (no_number (get_or a.cells l []) j (ap (stands j) (sym (columns-row a.cells l)) ∙ ap (λ k. stands k (get_or (map columns_in a.cells) l [])) (sym at) ∙ sym (made.places l c within) ∙ none_stands (graph_row g l) c e))
  in_row l c j (Some p) low within at e =
      same_some (slice_get (numbers (crs_of g stored) l) p) (number_at (get_or a.cells l []) j)
      (sym (slice_get-map Some (numbers (crs_of g stored) l) p)
      ∙ ap (λ os. slice_get os p) (row-is l low)
      ∙ slice_get-map (λ c. number_at (get_or a.cells l []) (index_at g.cols c)) (graph_row g l) p
      ∙ ap (option_map (λ c. number_at (get_or a.cells l []) (index_at g.cols c))) (global_index-from (graph_row g l) c p e)
      ∙ ap (λ k. Some (number_at (get_or a.cells l []) k)) at)

  at : (i j : ℕ) (o p : Option ℕ) → local_index g.rows i ≡ o → local_index g.cols j ≡ p → crs_number (crs_of g stored) o p ≡ number_in a o j
  at i j None p e f = refl
  at i j (Some l) None e f = sym (lacked l j (none_stands g.cols j f))
  at i j (Some l) (Some c) e f =
      let low = slice_get_within g.rows l i (global_index-from g.rows i l e) in
      let many = graph.rows in
      let there = global_index-from g.cols j c f in
      in_row l c j (local_index (graph_row g l) c) (omega arith) (slice_get_within g.cols c j there) (get_or_from_slice_get g.cols c j 0 there) refl

  pub table-completed : crs_table (crs_of g stored) ≡ row_table a
  table-completed = λ t i j. (at i j (local_index g.rows i) (local_index g.cols j) refl refl ∙ ap (λ xs. number_in a (local_index xs i) j) made.row_list) t
