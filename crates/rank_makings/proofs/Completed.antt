-- A matrix with a structure of its own, as its rank completes it.
use Rattle.std.proofs.Common.{◌≡◌, ℕ, zero, suc, ◌+◌, ◌<◌, ◌≤◌, ◌^◌, Bool, true, false, cond, List, [], ◌∷◌, filter, length, get_or, map, Option, None, Some, Result, Ok, Err, IfOk, refl, sym, ap, ◌∙◌, subst, arith}
use Rattle.std.specs.Prelude.{is_some}
use Rattle.std.specs.List.{concat, list_any}
use Rattle.scalar_laws.specs.Semiring.{Semiring}
use Rattle.scalar_laws.specs.Conversions.{Conversions}
use Rattle.letter_codec.specs.declared.kind.Kind.TheVariants.{Nums, Rows}
use Rattle.tables.specs.Indices.{count_from, stands}
use Rattle.map_core.specs.Plans.{PlanLists}
use Rattle.crs_graph.specs.ColumnMaps.{IsColumnList}
use Rattle.crs_graph.specs.Graphs.{IsCompleted}
use Rattle.crs_graph.proofs.AllColumns.{stands-ascending}
use Rattle.crs_matrix.specs.Matrices.{Crs, crs_table}
use Rattle.crs_matrix.specs.Rows.{IsRowCells, RowCells, all_columns, columns_in, row_table}
use Rattle.mm_text.specs.Reading.{File}
use Rattle.peers.specs.Protocols.{Letter}
use Rattle.model_defs.specs.declared.job.Job.{Job}
use Rattle.model_defs.specs.declared.phase.Plan.TheVariants.{ColumnPlan, RowPlan}
use Rattle.model_defs.specs.declared.shape.Shape.{Shape}
use Rattle.model_defs.specs.Limits.{most_indices}
use Rattle.model_defs.specs.Maps.{list_of, owner_rank, size_of}
use Rattle.model_defs.specs.Pieces.{piece_of}
use Rattle.model_defs.specs.Plans.{rank_columns, rank_list_by, rank_rows, structure}
use Rattle.model_defs.specs.Shapes.{is_split_sort, shape}
use Rattle.model_defs.specs.Transfers.{owner_map}
use Rattle.model_defs.specs.Valid.{IsValid}
use Rattle.matrix_arrivals.specs.RowPlans.{IsFromOwners}
use Rattle.matrix_arrivals.proofs.Few.{narrow}
use Rattle.plan_phases.specs.BookCalls.{IsPlanList, IsSharedBook}
use Rattle.plan_phases.proofs.StructureLists.{column_maps_are_lists, rows_are_lists}
use Rattle.rank_plans.specs.Books.{Book}
use Rattle.rank_share.specs.declared.share.Share.{Share}
use Rattle.rank_pieces.specs.declared.pieces.Piece.{Piece}
use Rattle.rank_pieces.specs.declared.pieces.Piece.TheVariants as of
use Rattle.rank_pieces.specs.Pieces.{HasRows, IsOwnPiece}
use Rattle.rank_makings.specs.Beginnings.{CanComplete}
use Rattle.rank_makings.specs.Completing.{IsOnColumns, IsRowPlan}
use Rattle.rank_makings.proofs.Assembled.{listed}
use Rattle.rank_makings.proofs.Columns.{fills-have-columns}
use Rattle.rank_makings.proofs.CopyAnswers.{shape-at}

filter-few : (test : ℕ → Bool) (xs : List ℕ) → length (filter test xs) ≤ length xs
filter-few test [] = omega arith
filter-few test (x ∷ xs) = by (test x) (filter-few test xs)
  where
    by : (b : Bool) → length (filter test xs) ≤ length xs → length (cond b (x ∷ filter test xs) (filter test xs)) ≤ length (x ∷ xs)
    by true l = omega (arith, l)
    by false l = omega (arith, l)

count-many : (b n : ℕ) → length (count_from b n) ≡ n
count-many b zero = refl
count-many b (suc n) = ap suc (count-many (b + 1) n)

pub if-both : {T E : Type 0} {P Q Z : T → Type 0} (r : Result T E) → IfOk r P → IfOk r Q → ((x : T) → P x → Q x → Z x) → IfOk r Z
if-both (Ok x) p q f = f x p q
if-both (Err e) p q f = tt

module _ {S : Type 0} {R : Semiring S} {F : Conversions S} {job : Job} {files : List File} {me : ℕ} {share : Share} {shapes : List Shape} {pieces : List (Piece S)} {given : List Letter} {book : Book}
    {k : ℕ} {fill : RowCells S} (can : CanComplete R F job files me share shapes pieces given book k fill) where
  pub valid : IsValid job
  valid = can.at.input.valid

  pub me-known : book.me < job.ranks
  me-known = subst (λ p. p < job.ranks) (sym can.me_is) can.at.input.rank

  pub domain-known : (d : Shape) → (get_or shapes k d).domain < length job.maps
  domain-known d = subst (λ s. s.domain < length job.maps) (sym (shape-at can.at k d can.at.below)) can.structured.known_domain

  pub split-here : (d : Shape) (b : Bool) → is_split_sort (get_or shapes k d).sort ≡ b → is_split_sort (shape job k).sort ≡ b
  split-here d b e = ap (λ s. is_split_sort s.sort) (sym (shape-at can.at k d can.at.below)) ∙ e

  -- ---- its columns

  module _ (rows_ok : IsRowCells fill) where
    columns-are : all_columns fill ≡ rank_columns job files k me
    columns-are =
        fills-have-columns R F job files me pieces given k can.phase fill valid can.at.input.fitting can.structured can.sent can.before can.heard rows_ok can.filled

    pub columns-listed : (columns : List ℕ) → columns ≡ all_columns fill → columns ≡ rank_list_by job files (ColumnPlan k) book.me
    columns-listed columns e = e ∙ columns-are ∙ ap (rank_columns job files k) (sym can.me_is)

    pub columns-few : length (all_columns fill) < 2 ^ 32
    columns-few =
        let size = size_of job (shape job k).domain in
        let some : size ≤ most_indices =
        subst (λ b. cond b (shape job k).columns (size_of job (shape job k).domain) ≤ most_indices) can.structured.sparse
        (narrow job valid files k can.at.below (ap (λ b. cond b Nums Rows) can.structured.sparse)) in
        let same = ap (λ xs. length xs) columns-are in
        let all = filter-few (λ j. list_any (λ i. is_some (piece_of job (shape job k) me (structure job files k) i j)) (count_from 0 (size_of job (shape job k).rows))) (count_from 0 size) in
        let many = count-many 0 size in
        omega (arith, some, same, all, many)

    pub on-columns : (d : Shape) (p : ℕ) → p ≡ book.me → {domain owners columns : List ℕ} → columns ≡ all_columns fill → domain ≡ list_of job (get_or shapes k d).domain p
        → owners ≡ map (owner_rank job (shape job k).domain) columns
        → (m : Crs S) → IsCompleted fill.rows (map columns_in fill.cells) domain owners m.graph → crs_table m ≡ row_table fill → IsOnColumns job files me k fill m
    on-columns d p mine {domain} {owners} {columns} cols domain_is owners_are m done table =
        let own : domain ≡ list_of job (shape job k).domain me = domain_is ∙ (λ i. list_of job (shape-at can.at k d can.at.below i).domain ((mine ∙ can.me_is) i)) in
        let owned : owners ≡ map (owner_rank job (shape job k).domain) (rank_columns job files k me) = owners_are ∙ ap (map (owner_rank job (shape job k).domain)) (cols ∙ columns-are) in
        record {
          rows = done.row_list;
          table = table;
          list =
              column_maps_are_lists job files k me m.graph.cols valid can.at.input.fitting can.structured can.at.input.rank
              (subst (λ l. IsColumnList l (rank_columns job files k me) (map (owner_rank job (shape job k).domain) (rank_columns job files k me)) m.graph.cols) own
              (subst (λ o. IsColumnList domain (rank_columns job files k me) o m.graph.cols) owned
              (subst (λ c. IsColumnList domain c owners m.graph.cols) columns-are done.col_list)))
              done.once
              (λ g. done.same g ∙ sym (stands-ascending (concat (map columns_in fill.cells)) g) ∙ ap (stands g) columns-are);
        }

  -- ---- its rows

  module _ {rows : List ℕ} (rows_are : rows ≡ fill.rows) where
    pub rows-listed : is_split_sort (shape job k).sort ≡ true → IsPlanList job files (RowPlan k) book.me rows
    rows-listed split =
        subst (λ p. IsPlanList job files (RowPlan k) p rows) (sym can.me_is)
        (subst (IsPlanList job files (RowPlan k) me) (sym (rows_are ∙ can.filled.rows ∙ ap (λ b. cond b (rank_rows job files k me) (list_of job (shape job k).rows me)) split))
        (rows_are_lists job files k me valid can.structured))

    pub split-rows : is_split_sort (shape job k).sort ≡ true → (made : PlanLists)
        → ((files : List File) → IsSharedBook R F job files book (RowPlan k) → IsPlanList job files (RowPlan k) book.me rows
        → IsFromOwners job files (RowPlan k) book.me (list_of job (owner_map job (RowPlan k)) book.me) rows made)
        → IsRowPlan job files me k rows (is_split_sort (shape job k).sort) (Some made)
    split-rows split made law =
        let list = rows-listed split in
        subst (λ b. IsRowPlan job files me k rows b (Some made)) (sym split) (
          made,
          refl,
          record {
            listed = listed job files (RowPlan k) me rows valid (subst (λ p. IsPlanList job files (RowPlan k) p rows) can.me_is list);
            from_owners = subst (λ p. IsFromOwners job files (RowPlan k) p (list_of job (shape job k).rows p) rows made) can.me_is (law files (can.rows split) list);
          },
        )

    pub whole-rows : is_split_sort (shape job k).sort ≡ false → IsRowPlan job files me k rows (is_split_sort (shape job k).sort) None
    whole-rows whole = subst (λ b. IsRowPlan job files me k rows b None) (sym whole) refl

  -- ---- the piece

  module _ {m : Crs S} (is : IsOnColumns job files me k fill m) where
    pub columns-shared : {list : List ℕ} → list ≡ m.graph.cols → IsPlanList job files (ColumnPlan k) book.me list
    columns-shared {list} e = subst (λ p. IsPlanList job files (ColumnPlan k) p list) (sym can.me_is) (subst (IsPlanList job files (ColumnPlan k) me) (sym e) is.list)

    has-rows : (b : Bool) → is_split_sort (shape job k).sort ≡ b → (columns : PlanLists) (rows : Option PlanLists) → IsRowPlan job files me k m.graph.rows b rows
        → HasRows {S = S} job files me b k (record { matrix = m; columns = columns; rows = rows })
    has-rows false e columns rows h = (is.rows ∙ can.filled.rows ∙ ap (λ b. cond b (rank_rows job files k me) (list_of job (shape job k).rows me)) e, h)
    has-rows true e columns rows h = h

    pub completed : (list : List ℕ) → list ≡ m.graph.cols → (columns : PlanLists)
        → ((files : List File) → IsSharedBook R F job files book (ColumnPlan k) → IsPlanList job files (ColumnPlan k) book.me list
        → IsFromOwners job files (ColumnPlan k) book.me (list_of job (owner_map job (ColumnPlan k)) book.me) list columns)
        → (on : List ℕ) → on ≡ m.graph.rows → (rows : Option PlanLists) → IsRowPlan job files me k on (is_split_sort (shape job k).sort) rows
        → IsOwnPiece R F job files me given k (of.Matrix (record { matrix = m; columns = columns; rows = rows }))
    completed list list_is columns law on on_is rows h = record {
      of = record {
        sparse = can.structured.sparse;
        columns = record {
          listed = listed job files (ColumnPlan k) me m.graph.cols valid is.list;
          from_owners =
              subst (λ l. IsFromOwners job files (ColumnPlan k) me (list_of job (shape job k).domain me) l columns) list_is
              (subst (λ p. IsFromOwners job files (ColumnPlan k) p (list_of job (shape job k).domain p) list columns) can.me_is (law files can.columns (columns-shared list_is)));
        };
        rows = has-rows (is_split_sort (shape job k).sort) refl columns rows (subst (λ l. IsRowPlan job files me k l (is_split_sort (shape job k).sort) rows) on_is h);
      };
      table = is.table ∙ can.filled.table;
    }
