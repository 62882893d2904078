-- The columns of a matrix under construction whose numbers came are those of the rank's column plan.
use Rattle.std.proofs.Common.{◌≡◌, ℕ, zero, suc, ◌<◌, ◌≤◌, ◌+◌, ◌⊎◌, inl, inr, Bool, true, false, cond, ◌&&◌, ◌||◌, List, [], ◌∷◌, ◌++◌, map, length, get_or, Option, None, Some, refl, sym, ap, ◌∙◌, subst, arith}
use Rattle.std.specs.Prelude.{is_some}
use Rattle.std.specs.List.{concat, list_any}
use Rattle.std.proofs.lemmas.Bool.{cases_lt}
use Rattle.std.proofs.lemmas.Option.{slice_get-get_or}
use Rattle.scalar_laws.specs.Semiring.{Semiring}
use Rattle.scalar_laws.specs.Conversions.{Conversions}
use Rattle.tables.specs.Indices.{AreDistinct, count_from, stands}
use Rattle.tables.specs.Tables.{Table, columns_of}
use Rattle.tables.proofs.Counting.{stands-within}
use Rattle.map_core.specs.Classes.{index_at}
use Rattle.map_core.specs.Layouts.{local_index}
use Rattle.map_core.proofs.Members.{and_true, stands-append, stands-concat, stands-filter}
use Rattle.map_core.proofs.Places.{local_index-from}
use Rattle.crs_graph.proofs.AllColumns.{ascending-ascends, ascending_unique, stands-ascending}
use Rattle.crs_matrix.specs.Rows.{IsRowCells, RowCells, all_columns, columns_in, number_at, number_in, row_table}
use Rattle.crs_matrix.proofs.CompletedRows.{has_number, no_number}
use Rattle.dense_arrivals.proofs.Full.{column-place}
use Rattle.matrix_arrivals.proofs.Few.{list-distinct}
use Rattle.mm_text.specs.Reading.{File}
use Rattle.outside.specs.declared.name.Name.{Name}
use Rattle.outside.specs.MailRoom.{names_of}
use Rattle.peers.specs.Protocols.{Letter, stands_in}
use Rattle.plan_phases.proofs.AscendingPairs.{count-ascends}
use Rattle.model_defs.specs.declared.job.Job.{Job}
use Rattle.model_defs.specs.declared.phase.Plan.TheVariants.{ImportPlan, RowPlan}
use Rattle.model_defs.specs.Fitting.{IsFitting}
use Rattle.model_defs.specs.Given.{dealt_part, given_matrix}
use Rattle.model_defs.specs.Laws.{HasPlaces, HasRowLaws}
use Rattle.model_defs.specs.Letters.{letter_names}
use Rattle.model_defs.specs.Machine.{arrivals, piece}
use Rattle.model_defs.specs.Makers.{GivenMatrix, maker_of, value_count}
use Rattle.model_defs.specs.Maps.{has_index, list_of, size_of}
use Rattle.model_defs.specs.Phases.{send_phase}
use Rattle.model_defs.specs.Pieces.{has_row, piece_of}
use Rattle.model_defs.specs.Plans.{One, one_conversions, one_semiring, rank_columns, rank_rows, structure, structure_before}
use Rattle.model_defs.specs.declared.shape.Sort.{Sort}
use Rattle.model_defs.specs.declared.shape.Sort.TheVariants.{Vector, Parts, Matrix, Split}
use Rattle.model_defs.specs.Eval.{make_value}
use Rattle.model_defs.specs.Shapes.{is_by_rank, is_split_sort, shape}
use Rattle.model_defs.specs.Stages.{first_pieces, make_piece, stage_count}
use Rattle.model_defs.specs.declared.phase.Way.TheVariants.{FromOwners}
use Rattle.model_defs.specs.Valid.{IsValid}
use Rattle.model_defs.proofs.AllRows.{fitting, one_laws, row-laws}
use Rattle.model_defs.proofs.Filters.{and, later}
use Rattle.model_defs.proofs.Formed.{either}
use Rattle.model_defs.proofs.KnownStages.{known-stage}
use Rattle.model_defs.proofs.MatrixRows.{any-at}
use Rattle.model_defs.proofs.Phases.{stages_are_in_order}
use Rattle.model_defs.proofs.Placed.{pieces-placed}
use Rattle.model_defs.proofs.SharedPlans.{before-is, structure-is}
use Rattle.model_defs.proofs.Structures.{cond-some, entries-places}
use Rattle.model_defs.proofs.Turns.{in_turn-first}
use Rattle.model_defs.proofs.Whole.{are_before}
use Rattle.tables.specs.Tables.{nowhere}
use Rattle.value_phases.specs.ValueKinds.{HasValueKinds, IsGivenSplit}
use Rattle.value_phases.specs.ValuePhases.{IsStructured}
use Rattle.value_phases.proofs.Stages.{jobs-have-value-stages}
use Rattle.rank_pieces.specs.declared.pieces.Piece.{Piece}
use Rattle.rank_makings.specs.Comings.{AreHeard, IsFilled}
use Rattle.rank_makings.specs.Laws.{FillsHaveColumns}
use Rattle.rank_makings.proofs.Filled.{split-made}

-- ---- the columns of rows

both-ways : (a b : Bool) → (a ≡ true → b ≡ true) → (b ≡ true → a ≡ true) → a ≡ b
both-ways true true f g = refl
both-ways true false f g = sym (f refl)
both-ways false true f g = g refl
both-ways false false f g = refl

module _ {S : Type 0} where
  columns-at : (cells : List (List (ℕ × S))) (l : ℕ) → get_or (map columns_in cells) l [] ≡ columns_in (get_or cells l [])
  columns-at [] l = refl
  columns-at (c ∷ cs) zero = refl
  columns-at (c ∷ cs) (suc l) = columns-at cs l

  -- a column of all rows is one of some row
  in-row : (cells : List (List (ℕ × S))) (j : ℕ) → stands j (concat (map columns_in cells)) ≡ true → (f : ℕ) × (f < length cells) × (stands j (columns_in (get_or cells f [])) ≡ true)
  in-row [] j on = absurd (let bad : ⊥ = cc in bad)
  in-row (c ∷ cs) j on = by (either (stands j (columns_in c)) _ (sym (stands-append j (columns_in c) (concat (map columns_in cs))) ∙ on)) (in-row cs j)
    where
      by : (stands j (columns_in c) ≡ true) ⊎ (stands j (concat (map columns_in cs)) ≡ true)
          → (stands j (concat (map columns_in cs)) ≡ true → (f : ℕ) × (f < length cs) × (stands j (columns_in (get_or cs f [])) ≡ true))
          → (f : ℕ) × (f < suc (length cs)) × (stands j (columns_in (get_or (c ∷ cs) f [])) ≡ true)
      by (inl h) rest = (0, omega arith, h)
      by (inr h) rest = let t = rest h in (suc t.0, omega (arith, t.1), t.2)

  module _ (a : RowCells S) (is : IsRowCells a) (distinct : AreDistinct a.rows) where
    -- a column has a place in some row,
    column-there : (j : ℕ) → stands j (all_columns a) ≡ true → (g : ℕ) × (is_some (row_table a g j) ≡ true)
    column-there j on =
        let t = in-row a.cells j (sym (stands-ascending (concat (map columns_in a.cells)) j) ∙ on) in
        let low : t.0 < length a.rows = omega (arith, t.1, is.each) in
        let at = local_index-from a.rows (index_at a.rows t.0) t.0 distinct (slice_get-get_or a.rows t.0 0 low) in
        (index_at a.rows t.0, ap (λ o. is_some (number_in a o j)) at ∙ has_number (get_or a.cells t.0 []) j t.2)

    -- and a place has a column
    there-column : (g j : ℕ) → is_some (row_table a g j) ≡ true → stands j (all_columns a) ≡ true
    there-column g j e = stands-ascending (concat (map columns_in a.cells)) j ∙ by (local_index a.rows g) e
      where
        by : (o : Option ℕ) → is_some (number_in a o j) ≡ true → stands j (concat (map columns_in a.cells)) ≡ true
        by None e = absurd (let bad : ⊥ = cc in bad)
        by (Some l) e = stands-concat j (map columns_in a.cells) l (ap (stands j) (columns-at a.cells l) ∙ on (stands j (columns_in (get_or a.cells l []))) refl)
          where
            on : (b : Bool) → stands j (columns_in (get_or a.cells l [])) ≡ b → b ≡ true
            on true f = refl
            on false f = absurd (let none = ap is_some (no_number (get_or a.cells l []) j f) in let bad : ⊥ = cc in bad)

-- ---- the columns of places

column-on : (cols rows : ℕ) (t : Table One) (i j : ℕ) → i < rows → j < cols → is_some (t i j) ≡ true → stands j (columns_of cols (count_from 0 rows) t) ≡ true
column-on cols rows t i j low narrow e =
    let test : ℕ → Bool = λ j. list_any (λ i. is_some (t i j)) (count_from 0 rows) in
    stands-filter j test (count_from 0 cols)
    ∙ and (stands j (count_from 0 cols)) (test j) (stands-within 0 cols j (omega arith) (omega (arith, narrow)))
    (any-at (λ i. is_some (t i j)) i (count_from 0 rows) (stands-within 0 rows i (omega arith) (omega (arith, low))) e)

module _ {S : Type 0} (R : Semiring S) (F : Conversions S) (job : Job) (files : List File) (me : ℕ) (given : List Letter) (k phase : ℕ)
    (valid : IsValid job) (fits : IsFitting job files) (structured : IsStructured job k)
    (sent : (stage m : ℕ) → send_phase job k stage ≡ Some m → m < phase) (before : (v stage m : ℕ) → v < k → send_phase job v stage ≡ Some m → m < phase)
    (heard : AreHeard job files me phase given) where
  laws : HasRowLaws one_semiring one_conversions job files
  laws = row-laws one_laws one_conversions job files valid (fitting job files fits)

  below : k < value_count job
  below = structured.below

  -- places are within the sizes of the matrix
  within : (i j : ℕ) → is_some (piece_of job (shape job k) me (structure job files k) i j) ≡ true → (i < size_of job (shape job k).rows) × (j < size_of job (shape job k).domain)
  within i j e =
      ((are_before one_laws one_conversions job files laws (λ v i j. 0) (value_count job) (omega arith)).formed k below).within structured.sparse me i j
      (and_true (has_row job (shape job k) me i) _ (sym (cond-some (has_row job (shape job k) me i) (structure job files k me i j)) ∙ e)).1

  -- all letters for it and for the values before it came, so it has its places
  piece-placed : HasPlaces (piece R F job files me k given) (piece_of job (shape job k) me (structure job files k))
  piece-placed i j =
      ap (λ t. is_some (t i j)) (in_turn-first nowhere (make_piece R F job files me (arrivals R F job files me given)) (value_count job) k below)
      ∙ pieces-placed R F job files valid (fitting job files fits) given me (suc k) (omega (arith, below)) came k i j
      ∙ ap (λ v. is_some (piece_of job (shape job k) me v i j)) (before-is job files valid laws (suc k) k (omega (arith, below)) (omega arith))
    where
      came : (v s : ℕ) → v < suc k → (n : ℕ) → send_phase job v s ≡ Some n → (y : Name) → stands_in (letter_names job files) y ≡ true → y.to ≡ me → y.phase ≡ n
          → stands_in (names_of given) y ≡ true
      came v s l n e y there to at = heard y there to (let less = early (cases_lt v k) in omega (arith, at, less))
        where
          early : (v < k) ⊎ (k ≤ v) → n < phase
          early (inl less) = before v s n less e
          early (inr more) = let same : v ≡ k = omega (arith, l, more) in sent s n (ap (λ w. send_phase job w s) (sym same) ∙ e)

pub fills-have-columns : {S : Type 0} (R : Semiring S) (F : Conversions S) → FillsHaveColumns R F
fills-have-columns R F job files me pieces given k phase fill valid fits structured sent before heard is filled =
    ascending_unique (all_columns fill) (rank_columns job files k me) (ascending-ascends (concat (map columns_in fill.cells)))
    (count-ascends 0 (size_of job (shape job k).domain) (λ j. list_any (λ i. is_some (piece_of job (shape job k) me (structure job files k) i j)) (count_from 0 (size_of job (shape job k).rows))))
    (λ j. both-ways (stands j (all_columns fill)) (stands j (rank_columns job files k me)) (forth j) (back j))
  where
    places : HasPlaces (row_table fill) (piece_of job (shape job k) me (structure job files k))
    places i j = ap (λ t. is_some (t i j)) filled.table ∙ piece-placed R F job files me given k phase valid fits structured sent before heard i j

    distinct : AreDistinct fill.rows
    distinct = subst AreDistinct (sym filled.rows) (by (is_split_sort (shape job k).sort))
      where
        by : (b : Bool) → AreDistinct (cond b (rank_rows job files k me) (list_of job (shape job k).rows me))
        by true = list-distinct job valid files (RowPlan k) me
        by false = list-distinct job valid files (ImportPlan 0 (shape job k).rows) me

    forth : (j : ℕ) → stands j (all_columns fill) ≡ true → stands j (rank_columns job files k me) ≡ true
    forth j on =
        let t = column-there fill is distinct j on in
        let e = sym (places t.0 j) ∙ t.1 in
        let low = within R F job files me given k phase valid fits structured sent before heard t.0 j e in
        column-on (size_of job (shape job k).domain) (size_of job (shape job k).rows) (piece_of job (shape job k) me (structure job files k)) t.0 j low.0 low.1 e

    back : (j : ℕ) → stands j (rank_columns job files k me) ≡ true → stands j (all_columns fill) ≡ true
    back j on =
        let t = column-place (size_of job (shape job k).domain) (size_of job (shape job k).rows) (piece_of job (shape job k) me (structure job files k)) j on in
        there-column fill is distinct t.0 j (places t.0 j ∙ t.2)
