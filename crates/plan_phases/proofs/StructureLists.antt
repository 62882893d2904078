-- The column map of a matrix, and the rows of a rank's part, as lists of the plans of a structure.
use Rattle.std.proofs.Common.{◌≡◌, ℕ, Bool, true, false, cond, not, ◌&&◌, ◌||◌, eqb, List, [], ◌∷◌, ◌++◌, filter, map, refl, sym, ap, subst, ◌∙◌}
use Rattle.std.specs.List.{list_any}
use Rattle.std.specs.Option.{is_some, unwrap_or}
use Rattle.std.proofs.lemmas.Bool.{eq-eqb, or_right}
use Rattle.std.proofs.lemmas.List.Elements.{filter-append}
use Rattle.tables.specs.Indices.{AreDistinct, count_from, stands}
use Rattle.tables.specs.Tables.{Table, columns_of}
use Rattle.map_core.proofs.Members.{AreDistinct-back, and_true, stands-filter}
use Rattle.map_core.proofs.Owners.{owner-only}
use Rattle.crs_graph.specs.Ascending.{IsAscending}
use Rattle.crs_graph.specs.ColumnMaps.{IsColumnList}
use Rattle.crs_graph.proofs.AllColumns.{ascending_unique}
use Rattle.mm_text.specs.Reading.{File}
use Rattle.matrix_arrivals.proofs.Few.{list-distinct}
use Rattle.model_defs.specs.declared.job.Job.{Job}
use Rattle.model_defs.specs.declared.phase.Plan.TheVariants.{ColumnPlan, RowPlan}
use Rattle.model_defs.specs.Maps.{layout_of, list_of, owner_rank, size_of}
use Rattle.model_defs.specs.Pieces.{piece_of}
use Rattle.model_defs.specs.Plans.{owns, rank_columns, remote, structure}
use Rattle.model_defs.specs.Shapes.{shape}
use Rattle.model_defs.specs.Valid.{IsOwnerMap, IsValid}
use Rattle.model_defs.proofs.Filters.{filter-filter}
use Rattle.model_defs.proofs.KnownShapes.{shapes-known}
use Rattle.value_phases.specs.ValuePhases.{IsStructured}
use Rattle.plan_phases.specs.Laws.{ColumnMapsAreLists, RowsAreLists}
use Rattle.plan_phases.proofs.AscendingPairs.{count-ascends, foreign-ascend, kept-ascends}

-- what none passes is empty
pub none-kept : (test : ℕ → Bool) (xs : List ℕ) → ((g : ℕ) → stands g xs ≡ true → test g ≡ false) → filter test xs ≡ []
none-kept test [] h = refl
none-kept test (x ∷ xs) h =
    ap (λ b. cond b (x ∷ filter test xs) (filter test xs)) (h x (ap (λ b. b || stands x xs) (eq-eqb x x refl)))
    ∙ none-kept test xs (λ g on. h g (or_right (eqb x g) (stands g xs) on))

columns-of-ascend : {S : Type 0} (cols : ℕ) (rows : List ℕ) (t : Table S) → IsAscending (columns_of cols rows t)
columns-of-ascend cols rows t = count-ascends 0 cols (λ j. list_any (λ i. is_some (t i j)) rows)

module _ (job : Job) (files : List File) (k p : ℕ) (list : List ℕ) (valid : IsValid job) (structured : IsStructured job k)
    (is : IsColumnList (list_of job (shape job k).domain p) (rank_columns job files k p) (map (owner_rank job (shape job k).domain) (rank_columns job files k p)) list)
    (distinct : AreDistinct list) (listed : (g : ℕ) → stands g list ≡ stands g (rank_columns job files k p)) where
  abbrev m : ℕ
  m = (shape job k).domain

  abbrev columns : List ℕ
  columns = rank_columns job files k p

  one : IsOwnerMap job m
  one = let maps = ((shapes-known job valid k structured.below).matrix structured.sparse).1 in (maps.0, maps.1)

  abbrev first : List ℕ
  first = filter (λ g. stands g columns) (list_of job m p)

  abbrev rest : List ℕ
  rest = map (λ x. x.1) is.others

  module _ (q : ℕ) where
    -- what it lacks of rank q
    abbrev test : ℕ → Bool
    test g = not (owns job files (ColumnPlan k) p g) && owns job files (ColumnPlan k) q g

    own : (g : ℕ) → test g ≡ true → owner_rank job m g ≡ q
    own g e =
        ap (λ o. unwrap_or o 0)
        (owner-only (layout_of job m) g q one.1 (and_true (not (owns job files (ColumnPlan k) p g)) (owns job files (ColumnPlan k) q g) e).1)

    none-first : filter test first ≡ []
    none-first =
        none-kept test first
        (λ g on.
        let here = (and_true (stands g (list_of job m p)) (stands g columns) (sym (stands-filter g (λ g. stands g columns) (list_of job m p)) ∙ on)).0 in
        ap (λ b. not b && owns job files (ColumnPlan k) q g) here)

    rest-is : filter test list ≡ filter test rest
    rest-is = ap (filter test) is.parts ∙ filter-append test first rest ∙ ap (λ xs. xs ++ filter test rest) none-first

    ascends : IsAscending (filter test list)
    ascends =
        subst IsAscending (sym rest-is)
        (foreign-ascend (owner_rank job m) test q own (list_of job m p) columns is.others is.ordered is.each (AreDistinct-back first rest (subst AreDistinct is.parts distinct)))

    columns-ascend : IsAscending (filter test columns)
    columns-ascend = kept-ascends columns test
        (columns-of-ascend (size_of job m) (count_from 0 (size_of job (shape job k).rows)) (piece_of job (shape job k) p (structure job files k)))

    same : filter test list ≡ filter test columns
    same =
        ascending_unique (filter test list) (filter test columns) ascends columns-ascend
        (λ g. stands-filter g test list ∙ ap (λ b. b && test g) (listed g) ∙ sym (stands-filter g test columns))

    pub in-order : filter (owns job files (ColumnPlan k) q) (filter (λ g. not (owns job files (ColumnPlan k) p g)) list) ≡ remote job files (ColumnPlan k) p q
    in-order =
        filter-filter (owns job files (ColumnPlan k) q) (λ g. not (owns job files (ColumnPlan k) p g)) list
        ∙ same
        ∙ sym (filter-filter (owns job files (ColumnPlan k) q) (λ g. not (owns job files (ColumnPlan k) p g)) columns)

pub column_maps_are_lists : ColumnMapsAreLists
column_maps_are_lists = λ job files k p list valid fit structured known is distinct listed. record {
  listed = listed;
  distinct = distinct;
  order = λ q l. in-order job files k p list valid structured is distinct listed q;
}

pub rows_are_lists : RowsAreLists
rows_are_lists = λ job files k p valid structured. record {
  listed = λ g. refl;
  distinct = list-distinct job valid files (RowPlan k) p;
  order = λ q l. refl;
}
