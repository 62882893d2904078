-- The row law of a matrix that is assembled from a file: its dealt lines are brought to the owners of their rows.
use Rattle.std.proofs.Common.{◌≡◌, ◌≢◌, ℕ, ℤ, ◌<◌, ◌+◌, ◌%◌, Bool, true, false, cond, ◌&&◌, ◌||◌, eqb, ltb, List, [], ◌∷◌, None, refl, sym, ap, ◌∙◌, subst, arith, ltb-true, inl, inr, ◌⊎◌, ap₂, Option, Some}
use Rattle.std.specs.Prelude.{is_some, neg_ℤ}
use Rattle.std.specs.List.{list_any, list_all, flat_map}
use Rattle.std.proofs.lemmas.Bool.{eqb-true, eq-eqb}
use Rattle.std.proofs.lemmas.List.Folds.{list_any-append}
use Rattle.scalar_laws.specs.Semiring.{Semiring, IsSemiring}
use Rattle.scalar_laws.specs.Conversions.{Conversions}
use Rattle.tables.specs.Tables.{Table, names, nowhere, only_rows}
use Rattle.tables.specs.Indices.{stands, each_rank, count_from, dealt_from, dealt}
use Rattle.tables.proofs.Counting.{stands-within}
use Rattle.tables.proofs.Ranks.{sum_of-dealt_lines, total-each_rank, sum_of-only_rows}
use Rattle.tables.proofs.Sums.{places-IsJoining, sums-IsJoining, unit_right, total_below-ext, total_below-unit}
use Rattle.map_core.specs.Layouts.{IsOneToOne, IsTotal, owner}
use Rattle.mm_text.specs.declared.file_data.Line.{Line}
use Rattle.mm_text.specs.declared.file_data.Mirror.{Mirror}
use Rattle.mm_text.specs.declared.file_data.Mirror.TheVariants.{Plain, Same, Negated}
use Rattle.mm_text.specs.Reading.{File}
use Rattle.model_defs.specs.FileMatrix.{entry_cells, entry_numbers, mirrored_cells, number_of}
use Rattle.combine_modes.specs.declared.mode.Mode.TheVariants.{Add}
use Rattle.combine_modes.specs.Modes.{combined, after_one, combine, there}
use Rattle.model_defs.specs.declared.job.Job.{Job}
use Rattle.model_defs.specs.declared.job.MatrixSpec.{MatrixSpec}
use Rattle.model_defs.specs.Maps.{layout_of, has_index, size_of, is_mapped}
use Rattle.model_defs.specs.Turns.{Each}
use Rattle.model_defs.specs.Makers.{GivenMatrix, maker_of, value_count, Made}
use Rattle.model_defs.specs.Shapes.{shape, shape_by, Matrix, is_dense, is_by_rank, is_split_sort, Shape, moved_shape, Split}
use Rattle.model_defs.specs.Pieces.{Value, piece_of, has_row}
use Rattle.model_defs.specs.Eval.{Pick, make_value, onto_or_nowhere}
use Rattle.model_defs.specs.Given.{value_file, matrix_of, dealt_part}
use Rattle.model_defs.specs.Transfers.{RowPlan, to_owners, Transfer, FromOwners, ImportPlan, ColumnPlan, from_owners, owner_map}
use Rattle.model_defs.specs.Plans.{One, one_semiring, one_conversions, rows_of, rank_rows, dealt_places, brought, rank_list_by, rank_columns, structure}
use Rattle.model_defs.specs.Stages.{all_pieces, source_of, onto_piece}
use Rattle.model_defs.specs.Laws.{AreBefore}
use Rattle.model_defs.proofs.Filters.{both, and, later}
use Rattle.model_defs.proofs.Names.{stands-filter}
use Rattle.model_defs.proofs.Structures.{file-some, cond-some}
use Rattle.model_defs.proofs.Combining.{add-nowhere}
use Rattle.model_defs.proofs.Transfers.{combined-to, combined-from}
use Rattle.model_defs.proofs.Rows.{first_shapes, shape-is, one-stage, IsMade, made_as, shape-first, list-mapped}
use Rattle.std.specs.Option.{option_map, unwrap_or}
use Rattle.tables.specs.Sums.{both_or_one, total, total_below, if_there}
use Rattle.map_core.proofs.Owners.{owner-only, owner-has, owner-none}
use Rattle.model_defs.specs.Operations.{scaled, combination, product, times_there, transpose}
use Rattle.combine_modes.specs.declared.mode.Mode.{Mode}
use Rattle.model_defs.specs.declared.job.Step.TheVariants as step

-- ---- places of files are within their sizes

abbrev pub is_within : ℕ → ℕ → Line → Bool
is_within rows cols l = ltb l.row rows && ltb l.col cols

pub all-dealt : (a : Line → Bool) (n P r : ℕ) (ls : List Line) → list_all a ls ≡ true → list_all a (dealt_from n P r ls) ≡ true
all-dealt a n P r [] e = refl
all-dealt a n P r (l ∷ ls) e = go (eqb (n % P) r) (all-dealt a (n + 1) P r ls (both (a l) (list_all a ls) e).1)
  where
    go : (b : Bool) → list_all a (dealt_from (n + 1) P r ls) ≡ true → list_all a (cond b (l ∷ dealt_from (n + 1) P r ls) (dealt_from (n + 1) P r ls)) ≡ true
    go true rest = and (a l) _ (both (a l) (list_all a ls) e).0 rest
    go false rest = rest

-- the own place of an entry, and its mirrored one
place-within : (rows cols a b i j : ℕ) → a < rows → b < cols → (eqb a i) && (eqb b j) ≡ true → (i < rows) × (j < cols)
place-within rows cols a b i j l m e =
    let t = both (eqb a i) (eqb b j) e in
    let same = eqb-true a i t.0 in
    let also = eqb-true b j t.1 in
    (omega arith, omega arith)

cell-within : (rows cols : ℕ) (mirror : Mirror) → (mirror ≢ Plain → rows ≡ cols) → (i j : ℕ) (l : Line) → is_within rows cols l ≡ true → list_any (names i j) (entry_cells mirror l) ≡ true → (i < rows) × (j < cols)
cell-within rows cols mirror square i j l w e = by mirror square e
  where
    low : l.row < rows
    low = ltb-true l.row rows (both (ltb l.row rows) (ltb l.col cols) w).0

    side : l.col < cols
    side = ltb-true l.col cols (both (ltb l.row rows) (ltb l.col cols) w).1

    own : (b : Bool) → ((eqb l.row i) && (eqb l.col j)) || b ≡ true → (b ≡ true → (i < rows) × (j < cols)) → (i < rows) × (j < cols)
    own b e rest = go ((eqb l.row i) && (eqb l.col j)) refl e
      where
        go : (c : Bool) → (eqb l.row i) && (eqb l.col j) ≡ c → c || b ≡ true → (i < rows) × (j < cols)
        go true f e = place-within rows cols l.row l.col i j low side f
        go false f e = rest e

    never : {A : Type 0} → false ≡ true → A
    never e = absurd (let bad : ⊥ = cc in bad)

    mirrored : (v : ℤ) → rows ≡ cols → (b : Bool) → list_any (names i j) (cond b [] (record { row = l.col; col = l.row; value = v } ∷ [])) ≡ true → (i < rows) × (j < cols)
    mirrored v s true e = never e
    mirrored v s false e = go ((eqb l.col i) && (eqb l.row j)) refl e
      where
        go : (c : Bool) → (eqb l.col i) && (eqb l.row j) ≡ c → c || false ≡ true → (i < rows) × (j < cols)
        go true f e = place-within rows cols l.col l.row i j (omega (arith, side, s)) (omega (arith, low, s)) f
        go false f e = never e

    by : (m : Mirror) → (m ≢ Plain → rows ≡ cols) → list_any (names i j) (entry_cells m l) ≡ true → (i < rows) × (j < cols)
    by Plain square e = own false e never
    by Same square e = own (list_any (names i j) (mirrored_cells l l.value)) e (mirrored l.value (square (λ h. absurd (let bad : ⊥ = cc in bad))) (eqb l.row l.col))
    by Negated square e = own (list_any (names i j) (mirrored_cells l (neg_ℤ l.value))) e (mirrored (neg_ℤ l.value) (square (λ h. absurd (let bad : ⊥ = cc in bad))) (eqb l.row l.col))

pub cells-within : (rows cols : ℕ) (mirror : Mirror) → (mirror ≢ Plain → rows ≡ cols) → (i j : ℕ) (ls : List Line) → list_all (is_within rows cols) ls ≡ true → list_any (names i j) (flat_map (entry_cells mirror) ls) ≡ true → (i < rows) × (j < cols)
cells-within rows cols mirror square i j [] w e = absurd (let bad : ⊥ = cc in bad)
cells-within rows cols mirror square i j (l ∷ ls) w e =
    go (list_any (names i j) (entry_cells mirror l)) refl (sym (list_any-append (names i j) (entry_cells mirror l) (flat_map (entry_cells mirror) ls)) ∙ e) (cells-within rows cols mirror square i j ls t.1)
  where
    t : (is_within rows cols l ≡ true) × (list_all (is_within rows cols) ls ≡ true)
    t = both (is_within rows cols l) (list_all (is_within rows cols) ls) w

    go : (b : Bool) → list_any (names i j) (entry_cells mirror l) ≡ b → b || list_any (names i j) (flat_map (entry_cells mirror) ls) ≡ true
        → (list_any (names i j) (flat_map (entry_cells mirror) ls) ≡ true → (i < rows) × (j < cols)) → (i < rows) × (j < cols)
    go true f e rest = cell-within rows cols mirror square i j l t.0 f
    go false f e rest = rest e

pub any-at : (h : ℕ → Bool) (j : ℕ) (xs : List ℕ) → stands j xs ≡ true → h j ≡ true → list_any h xs ≡ true
any-at h j [] e f = absurd (let bad : ⊥ = cc in bad)
any-at h j (x ∷ xs) e f = go (eqb x j) refl e (any-at h j xs)
  where
    go : (b : Bool) → eqb x j ≡ b → b || stands j xs ≡ true → (stands j xs ≡ true → h j ≡ true → list_any h xs ≡ true) → h x || list_any h xs ≡ true
    go true s e rest = ap (λ z. z || list_any h xs) (ap h (eqb-true x j s) ∙ f)
    go false s e rest = later (h x) _ (rest e f)

-- a row with a place stands among the rows
pub row-stands : (rows cols : ℕ) (t : Table One) (i j : ℕ) → i < rows → j < cols → is_some (t i j) ≡ true → stands i (rows_of rows cols t) ≡ true
row-stands rows cols t i j l m e =
    stands-filter (λ i. list_any (λ j. is_some (t i j)) (count_from 0 cols)) i (count_from 0 rows) (stands-within 0 rows i (omega arith) (omega arith))
    (any-at (λ j. is_some (t i j)) j (count_from 0 cols) (stands-within 0 cols j (omega arith) (omega arith)) e)

module _ {S : Type 0} {R : Semiring S} (L : IsSemiring R) (F : Conversions S) (job : Job) (files : List File) (k : ℕ) (below : k < value_count job) (pick : Pick) (values : Each (Value S)) (before : AreBefore job files k values) (p : ℕ) where
  pub assembled-made : (spec : MatrixSpec) → maker_of job k ≡ GivenMatrix (record spec { split = false }) → 0 < job.ranks → IsOneToOne (layout_of job spec.rows)
      → list_all (is_within (size_of job spec.rows) (size_of job spec.domain)) (value_file job files k 0).lines ≡ true → ((value_file job files k 0).mirror ≢ Plain → size_of job spec.rows ≡ size_of job spec.domain)
      → IsMade R F job files k below pick values before p
  assembled-made spec e some one places square =
      ap (made_as R F job files k below pick values before p) e
      ∙ one-stage R F job files k below pick values before p (GivenMatrix (record spec { split = false })) false e (ap (λ s. is_dense s.sort) same) refl
      ∙ (λ t i j. (combined-to R F job files (to_owners (RowPlan k)) one' refl (λ q. dealt_part R F job files k q) within Add false job.ranks p nowhere (pick k) i j ∙ at i j) t)
      ∙ (λ t. only_rows (λ i. is_by_rank (sym sort t) || has_index job (shape job k).rows p i) (matrix_of R F job files (value_file job files k 0)))
      ∙ sym (ap (λ m. piece_of job (shape job k) p (make_value R F job files pick k values m)) e)
    where
      same : shape job k ≡ record { sort = Matrix; rows = spec.rows; domain = spec.domain; columns = 0; structure = k }
      same = shape-is job k below ∙ ap (shape_by k (first_shapes job k)) e

      sort : (shape job k).sort ≡ Matrix
      sort = ap (λ s. s.sort) same

      one' : IsOneToOne (layout_of job (shape job k).rows)
      one' = subst (λ s. IsOneToOne (layout_of job s.rows)) (sym same) one

      within : (q i j : ℕ) → is_some (dealt_part R F job files k q i j) ≡ true → stands i (rank_rows job files k q) ≡ true
      within q i j h =
          let named = sym (file-some R F (value_file job files k 0).mirror (dealt job.ranks q (value_file job files k 0).lines) i j) ∙ h in
          let place = cells-within (size_of job spec.rows) (size_of job spec.domain) (value_file job files k 0).mirror square i j (dealt job.ranks q (value_file job files k 0).lines)
          (all-dealt (is_within (size_of job spec.rows) (size_of job spec.domain)) 0 job.ranks q (value_file job files k 0).lines places) named in
          ap (λ s. stands i (rows_of (size_of job s.rows) (size_of job s.domain) (dealt_places job files (is_split_sort s.sort) k q))) same
          ∙ row-stands (size_of job spec.rows) (size_of job spec.domain) (dealt_part one_semiring one_conversions job files k q) i j place.0 place.1
          (file-some one_semiring one_conversions (value_file job files k 0).mirror (dealt job.ranks q (value_file job files k 0).lines) i j ∙ named)

      sums : (i j : ℕ) → combined R Add false job.ranks nowhere (λ q. dealt_part R F job files k q) (pick k) i j ≡ matrix_of R F job files (value_file job files k 0) i j
      sums i j =
          add-nowhere R L (each_rank job.ranks (λ q. dealt_part R F job files k q i j)) _
          ∙ total-each_rank (places-IsJoining L) job.ranks (λ q. dealt_part R F job files k q i j) (λ o. o)
          ∙ sym (total-each_rank (places-IsJoining L) job.ranks (λ q. dealt_part R F job files k q) (λ t. t i j))
          ∙ (λ t. sum_of-dealt_lines L job.ranks some (entry_numbers R F (value_file job files k 0).mirror) (value_file job files k 0).lines t i j)

      at : (i j : ℕ) → cond (has_index job (shape job k).rows p i) (combined R Add false job.ranks nowhere (λ q. dealt_part R F job files k q) (pick k) i j) None
          ≡ cond (has_index job (shape job k).rows p i) (matrix_of R F job files (value_file job files k 0) i j) None
      at i j = ap (λ o. cond (has_index job (shape job k).rows p i) o None) (sums i j)

-- ---- statements on matrices

after-add : {S : Type 0} {R : Semiring S} → IsSemiring R → (o : Option S) → after_one R Add false None o ≡ o
after-add L None = refl
after-add L (Some v) = ap Some (unit_right (sums-IsJoining L) v)

none-cond : {S : Type 0} (b : Bool) → let absent : Option S = None in cond b absent None ≡ None
none-cond true = refl
none-cond false = refl

module _ {S : Type 0} {R : Semiring S} (L : IsSemiring R) (F : Conversions S) (job : Job) (files : List File) (k : ℕ) (below : k < value_count job) (pick : Pick) (values : Each (Value S)) (before : AreBefore job files k values) (p : ℕ) where
  pub matrix-piece : (v : ℕ) → (shape job v).sort ≡ Matrix → (q : ℕ) → all_pieces R F job files values q v ≡ only_rows (has_index job (shape job v).rows q) (values v q)
  matrix-piece v e q = ap (λ s. only_rows (λ i. is_by_rank s || has_index job (shape job v).rows q i) (values v q)) e

  pub matrix-whole : (v : ℕ) → v < k → (shape job v).sort ≡ Matrix → (q r : ℕ) → values v q ≡ values v r
  matrix-whole v l e q r = (before.formed v l).whole (ap is_by_rank e) q ∙ sym ((before.formed v l).whole (ap is_by_rank e) r)

  pub matrix-rows : (v : ℕ) → v < k → (shape job v).sort ≡ Matrix → (q r : ℕ) → all_pieces R F job files values q v ≡ only_rows (has_index job (shape job v).rows q) (values v r)
  matrix-rows v l e q r = matrix-piece v e q ∙ ap (only_rows (has_index job (shape job v).rows q)) (matrix-whole v l e q r)

  -- the rows of a matrix, from their owners
  fetched-rows : (tr : Transfer) → tr.way ≡ FromOwners → IsOneToOne (layout_of job (owner_map job tr.plan)) → ((i q : ℕ) → owner (layout_of job (owner_map job tr.plan)) i ≡ Some q → q < job.ranks)
      → (b : ℕ) → b < k → (shape job b).sort ≡ Matrix → owner_map job tr.plan ≡ (shape job b).rows → (i j : ℕ)
      → combined R Add false job.ranks nowhere (λ q. brought job files tr (all_pieces R F job files values q b) q p) (source_of job tr.way tr.plan (pick k)) i j
      ≡ cond (stands i (rank_list_by job files tr.plan p) && is_mapped job (owner_map job tr.plan) i) (values b p i j) None
  fetched-rows tr way one ranked b l s m i j =
      (λ t. combined R Add false job.ranks nowhere (λ q. brought job files tr (rows q t) q p) (source_of job tr.way tr.plan (pick k)) i j)
      ∙ combined-from R F job files tr one way job.ranks ranked (values b p) Add false p nowhere (pick k) i j
      ∙ after-add L _
    where
      rows : (q : ℕ) → all_pieces R F job files values q b ≡ only_rows (has_index job (owner_map job tr.plan) q) (values b p)
      rows q = matrix-rows b l s q p ∙ ap (λ m. only_rows (has_index job m q) (values b p)) (sym m)

  -- a row with a place is mapped, where the map is total
  mapped-row : (v : ℕ) → v < k → is_dense (shape job v).sort ≡ false → IsTotal (layout_of job (shape job v).rows) → (q i j : ℕ) → is_some (values v q i j) ≡ true → is_mapped job (shape job v).rows i ≡ true
  mapped-row v l d total q i j e = total i ((before.formed v l).within d q i j e).0

  pub move-matrix-made : (name : List ℕ) (source m : ℕ) → maker_of job k ≡ Made (step.Move name source m) → source < k → (shape job source).sort ≡ Matrix
      → IsOneToOne (layout_of job (shape job source).rows) → ((i q : ℕ) → owner (layout_of job (shape job source).rows) i ≡ Some q → q < job.ranks)
      → ((i : ℕ) → is_mapped job m i ≡ true → is_mapped job (shape job source).rows i ≡ true) → IsMade R F job files k below pick values before p
  move-matrix-made name source m e l s one ranked covers =
      ap (made_as R F job files k below pick values before p) e
      ∙ one-stage R F job files k below pick values before p (Made (step.Move name source m)) false e (ap is_dense sort) refl
      ∙ (λ t i j. (fetched-rows (from_owners (ImportPlan (shape job source).rows m)) refl one ranked source l s refl i j ∙ at i j (has_index job m p i) refl) t)
      ∙ (λ t. only_rows (λ i. is_by_rank (sym sort t) || has_index job (sym rows t) p i) (only_rows (is_mapped job m) (values source p)))
      ∙ sym (ap (λ m. piece_of job (shape job k) p (make_value R F job files pick k values m)) e)
    where
      same : shape job k ≡ moved_shape k (shape job source) m
      same = shape-is job k below ∙ ap (shape_by k (first_shapes job k)) e ∙ ap (λ s. moved_shape k s m) (shape-first job k source (omega arith) l)

      sort : (shape job k).sort ≡ Matrix
      sort = ap (λ s. s.sort) same ∙ s

      rows : (shape job k).rows ≡ m
      rows = ap (λ s. s.rows) same

      at : (i j : ℕ) (b : Bool) → has_index job m p i ≡ b → cond (b && is_mapped job (shape job source).rows i) (values source p i j) None ≡ cond b (cond (is_mapped job m i) (values source p i j) None) None
      at i j false h = refl
      at i j true h = ap (λ b. cond b (values source p i j) None) (covers i (list-mapped job m p i h)) ∙ ap (λ b. cond b (values source p i j) None) (sym (list-mapped job m p i h))

  pub sum-made : (name : List ℕ) (a b : ℕ) (alpha beta : ℤ) → maker_of job k ≡ Made (step.Add name a b alpha beta) → a < k → b < k → (shape job a).sort ≡ Matrix → (shape job b).sort ≡ Matrix
      → IsOneToOne (layout_of job (shape job b).rows) → ((i q : ℕ) → owner (layout_of job (shape job b).rows) i ≡ Some q → q < job.ranks) → IsTotal (layout_of job (shape job b).rows)
      → IsMade R F job files k below pick values before p
  sum-made name a b alpha beta e l m s o one ranked total =
      ap (made_as R F job files k below pick values before p) e
      ∙ ap (combination R (number_of R F alpha) (all_pieces R F job files values p a) (number_of R F beta)) (one-stage R F job files k below pick values before p (Made (step.Add name a b alpha beta)) false e (ap is_dense sort) refl)
      ∙ (λ t i j. both_or_one R.plus (scaled R (number_of R F alpha) (matrix-piece a s p t) i j) (option_map (R.times (number_of R F beta)) (fetched i j t)))
      ∙ (λ t i j. at i j (has_index job (shape job a).rows p i) (is_mapped job (shape job b).rows i) refl t)
      ∙ (λ t. only_rows (λ i. is_by_rank (sym sort t) || has_index job (sym rows t) p i) (combination R (number_of R F alpha) (values a p) (number_of R F beta) (values b p)))
      ∙ sym (ap (λ m. piece_of job (shape job k) p (make_value R F job files pick k values m)) e)
    where
      same : shape job k ≡ record (shape job a) { structure = k }
      same = shape-is job k below ∙ ap (shape_by k (first_shapes job k)) e ∙ (λ t. record (shape-first job k a (omega arith) l t) { structure = k })

      sort : (shape job k).sort ≡ Matrix
      sort = ap (λ s. s.sort) same ∙ s

      rows : (shape job k).rows ≡ (shape job a).rows
      rows = ap (λ s. s.rows) same

      fetched : (i j : ℕ) → combined R Add false job.ranks nowhere (λ q. brought job files (from_owners (ImportPlan (shape job b).rows (shape job a).rows)) (all_pieces R F job files values q b) q p)
          (source_of job FromOwners (ImportPlan (shape job b).rows (shape job a).rows) (pick k)) i j
          ≡ cond (has_index job (shape job a).rows p i && is_mapped job (shape job b).rows i) (values b p i j) None
      fetched i j = fetched-rows (from_owners (ImportPlan (shape job b).rows (shape job a).rows)) refl one ranked b m o refl i j

      at : (i j : ℕ) (h g : Bool) → is_mapped job (shape job b).rows i ≡ g
          → both_or_one R.plus (option_map (R.times (number_of R F alpha)) (cond h (values a p i j) None)) (option_map (R.times (number_of R F beta)) (cond (h && g) (values b p i j) None))
          ≡ cond h (both_or_one R.plus (option_map (R.times (number_of R F alpha)) (values a p i j)) (option_map (R.times (number_of R F beta)) (values b p i j))) None
      at i j false g f = refl
      at i j true true f = refl
      at i j true false f = ap (λ o. both_or_one R.plus (option_map (R.times (number_of R F alpha)) (values a p i j)) (option_map (R.times (number_of R F beta)) o)) (gone (values b p i j) refl)
        where
          gone : (o : Option S) → values b p i j ≡ o → None ≡ o
          gone None v = refl
          gone (Some x) v = let t = mapped-row b m (ap is_dense o) total p i j (ap is_some v) in absurd (let bad : ⊥ = cc in bad)

  -- a column with a place in a rank's rows stands among its columns
  pub column-stands : (a : ℕ) → a < k → (shape job a).sort ≡ Matrix → (q i j : ℕ) → has_index job (shape job a).rows q i ≡ true → is_some (values a q i j) ≡ true → stands j (rank_columns job files a q) ≡ true
  column-stands a l s q i j r e =
      let place = (before.formed a l).within (ap is_dense s) q i j e in
      stands-filter (λ j. list_any (λ i. is_some (piece_of job (shape job a) q (structure job files a) i j)) (count_from 0 (size_of job (shape job a).rows))) j (count_from 0 (size_of job (shape job a).domain))
      (stands-within 0 (size_of job (shape job a).domain) j (omega arith) (omega (arith, place.1)))
      (any-at (λ i. is_some (piece_of job (shape job a) q (structure job files a) i j)) i (count_from 0 (size_of job (shape job a).rows)) (stands-within 0 (size_of job (shape job a).rows) i (omega arith) (omega (arith, place.0)))
      (ap (λ b. is_some (cond b (structure job files a q i j) None)) (later (is_by_rank (shape job a).sort) _ r) ∙ sym (before.placed a q l i j) ∙ e))

  -- the same of what a rank has, of a matrix or of a part
  pub column-there : (a : ℕ) → a < k → is_dense (shape job a).sort ≡ false → (q i j : ℕ) → is_some (all_pieces R F job files values q a i j) ≡ true → stands j (rank_columns job files a q) ≡ true
  column-there a l d q i j e =
      let there = both (has_row job (shape job a) q i) (is_some (values a q i j)) (sym (cond-some (has_row job (shape job a) q i) (values a q i j)) ∙ e) in
      let place = (before.formed a l).within d q i j there.1 in
      stands-filter (λ j. list_any (λ i. is_some (piece_of job (shape job a) q (structure job files a) i j)) (count_from 0 (size_of job (shape job a).rows))) j (count_from 0 (size_of job (shape job a).domain))
      (stands-within 0 (size_of job (shape job a).domain) j (omega arith) (omega (arith, place.1)))
      (any-at (λ i. is_some (piece_of job (shape job a) q (structure job files a) i j)) i (count_from 0 (size_of job (shape job a).rows)) (stands-within 0 (size_of job (shape job a).rows) i (omega arith) (omega (arith, place.0)))
      (ap (λ b. is_some (cond b (structure job files a q i j) None)) there.0 ∙ sym (before.placed a q l i j) ∙ there.1))

  pub multiply-made : (name : List ℕ) (a b : ℕ) → maker_of job k ≡ Made (step.Multiply name a b) → a < k → b < k → (shape job a).sort ≡ Matrix → (shape job b).sort ≡ Matrix → (shape job a).domain ≡ (shape job b).rows
      → IsOneToOne (layout_of job (shape job a).domain) → ((i q : ℕ) → owner (layout_of job (shape job a).domain) i ≡ Some q → q < job.ranks) → IsTotal (layout_of job (shape job a).domain)
      → IsMade R F job files k below pick values before p
  multiply-made name a b e l m s o d one ranked total =
      ap (made_as R F job files k below pick values before p) e
      ∙ ap (product R (size_of job (shape job a).domain) (all_pieces R F job files values p a)) (one-stage R F job files k below pick values before p (Made (step.Multiply name a b)) false e (ap is_dense sort) refl)
      ∙ (λ t i j. total_below (if_there R.plus) (size_of job (shape job a).domain) (λ c. times_there R (matrix-piece a s p t i c) (fetched-rows (from_owners (ColumnPlan a)) refl one ranked b m o d c j t)))
      ∙ (λ t i j. at i j (has_index job (shape job a).rows p i) refl t)
      ∙ (λ t. only_rows (λ i. is_by_rank (sym sort t) || has_index job (sym rows t) p i) (product R (size_of job (shape job a).domain) (values a p) (values b p)))
      ∙ sym (ap (λ m. piece_of job (shape job k) p (make_value R F job files pick k values m)) e)
    where
      multiplied : Shape → ℕ → Shape
      multiplied s d = record s { domain = d; structure = k }

      same : shape job k ≡ multiplied (shape job a) (shape job b).domain
      same = shape-is job k below ∙ ap (shape_by k (first_shapes job k)) e ∙ (λ t. multiplied (shape-first job k a (omega arith) l t) (shape-first job k b (omega arith) m t).domain)

      sort : (shape job k).sort ≡ Matrix
      sort = ap (λ s. s.sort) same ∙ s

      rows : (shape job k).rows ≡ (shape job a).rows
      rows = ap (λ s. s.rows) same

      none : (u : Option S) → times_there R None u ≡ None
      none u = refl

      at : (i j : ℕ) (r : Bool) → has_index job (shape job a).rows p i ≡ r
          → total_below (if_there R.plus) (size_of job (shape job a).domain) (λ c. times_there R (cond r (values a p i c) None) (cond (stands c (rank_columns job files a p) && is_mapped job (shape job a).domain c) (values b p c j) None))
          ≡ cond r (product R (size_of job (shape job a).domain) (values a p) (values b p) i j) None
      at i j false r = total_below-unit (places-IsJoining L) (size_of job (shape job a).domain)
      at i j true r = total_below-ext (places-IsJoining L) (size_of job (shape job a).domain) _ _ (λ c low. term c low (values a p i c) refl)
        where
          term : (c : ℕ) → c < size_of job (shape job a).domain → (u : Option S) → values a p i c ≡ u
              → times_there R u (cond (stands c (rank_columns job files a p) && is_mapped job (shape job a).domain c) (values b p c j) None) ≡ times_there R u (values b p c j)
          term c low None v = refl
          term c low (Some x) v = ap₂ (λ g h. times_there R (Some x) (cond (g && h) (values b p c j) None)) (column-stands a l s p i c r (ap is_some v)) (total c low)

  -- each row of a matrix is one rank's
  pub row-owner : (v : ℕ) → v < k → (shape job v).sort ≡ Matrix → IsOneToOne (layout_of job (shape job v).rows) → ((i q : ℕ) → owner (layout_of job (shape job v).rows) i ≡ Some q → q < job.ranks) → IsTotal (layout_of job (shape job v).rows)
      → (i : ℕ) → ((q : ℕ) × (q < job.ranks) × ((r : ℕ) → has_index job (shape job v).rows r i ≡ eqb q r)) ⊎ ((j : ℕ) → values v p i j ≡ None)
  row-owner v l s one ranked total i = by (owner (layout_of job (shape job v).rows) i) refl
    where
      by : (u : Option ℕ) → owner (layout_of job (shape job v).rows) i ≡ u → ((q : ℕ) × (q < job.ranks) × ((r : ℕ) → has_index job (shape job v).rows r i ≡ eqb q r)) ⊎ ((j : ℕ) → values v p i j ≡ None)
      by (Some q) e = inl (q, ranked i q e, same)
        where
          same : (r : ℕ) → has_index job (shape job v).rows r i ≡ eqb q r
          same r = go (has_index job (shape job v).rows r i) refl (eqb q r) refl
            where
              go : (a : Bool) → has_index job (shape job v).rows r i ≡ a → (b : Bool) → eqb q r ≡ b → a ≡ b
              go true f true h = refl
              go false f false h = refl
              go true f false h = let is : Some q ≡ Some r = sym e ∙ owner-only (layout_of job (shape job v).rows) i r one f in let two : q ≡ r = cc in let yes = eq-eqb q r two in absurd (let bad : ⊥ = cc in bad)
              go false f true h = let has : has_index job (shape job v).rows r i ≡ true = ap (λ x. has_index job (shape job v).rows x i) (sym (eqb-true q r h)) ∙ owner-has (layout_of job (shape job v).rows) i q e in absurd (let bad : ⊥ = cc in bad)
      by None e = inr (λ j. gone j (values v p i j) refl)
        where
          gone : (j : ℕ) (o : Option S) → values v p i j ≡ o → o ≡ None
          gone j None f = refl
          gone j (Some x) f = let t = mapped-row v l (ap is_dense s) total p i j (ap is_some f) in let u = (owner-none (layout_of job (shape job v).rows) i).0 e in absurd (let bad : ⊥ = cc in bad)

  pub transpose-made : (name : List ℕ) (a : ℕ) → maker_of job k ≡ Made (step.Transpose name a) → a < k → (shape job a).sort ≡ Matrix
      → IsOneToOne (layout_of job (shape job a).rows) → ((i q : ℕ) → owner (layout_of job (shape job a).rows) i ≡ Some q → q < job.ranks) → IsTotal (layout_of job (shape job a).rows)
      → IsOneToOne (layout_of job (shape job a).domain) → IsMade R F job files k below pick values before p
  transpose-made name a e l s one ranked full two =
      ap (made_as R F job files k below pick values before p) e
      ∙ one-stage R F job files k below pick values before p (Made (step.Transpose name a)) false e (ap is_dense sort) refl
      ∙ (λ t i j. (combined-to R F job files (to_owners (ColumnPlan a)) two refl (λ q. transpose (all_pieces R F job files values q a)) within Add false job.ranks p nowhere (pick k) i j ∙ at i j) t)
      ∙ (λ t. only_rows (λ i. is_by_rank (sym sort t) || has_index job (sym rows t) p i) (transpose (values a p)))
      ∙ sym (ap (λ m. piece_of job (shape job k) p (make_value R F job files pick k values m)) e)
    where
      turned : Shape → Shape
      turned s = record s { rows = s.domain; domain = s.rows; structure = k }

      same : shape job k ≡ turned (shape job a)
      same = shape-is job k below ∙ ap (shape_by k (first_shapes job k)) e ∙ ap turned (shape-first job k a (omega arith) l)

      sort : (shape job k).sort ≡ Matrix
      sort = ap (λ s. s.sort) same ∙ s

      rows : (shape job k).rows ≡ (shape job a).domain
      rows = ap (λ s. s.rows) same

      within : (q i j : ℕ) → is_some (all_pieces R F job files values q a j i) ≡ true → stands i (rank_columns job files a q) ≡ true
      within q i j h = go (has_index job (shape job a).rows q j) refl ((λ t. is_some (sym (matrix-piece a s q) t j i)) ∙ h)
        where
          go : (b : Bool) → has_index job (shape job a).rows q j ≡ b → is_some (cond b (values a q j i) None) ≡ true → stands i (rank_columns job files a q) ≡ true
          go true r g = column-stands a l s q j i r g
          go false r g = absurd (let bad : ⊥ = cc in bad)

      sums : (i j : ℕ) → combined R Add false job.ranks nowhere (λ q. transpose (all_pieces R F job files values q a)) (pick k) i j ≡ values a p j i
      sums i j =
          add-nowhere R L (each_rank job.ranks (λ q. all_pieces R F job files values q a j i)) _
          ∙ (λ t. total (if_there R.plus) (λ o. o) (each_rank job.ranks (λ q. matrix-rows a l s q p t j i)))
          ∙ total-each_rank (places-IsJoining L) job.ranks (λ q. only_rows (has_index job (shape job a).rows q) (values a p) j i) (λ o. o)
          ∙ sym (total-each_rank (places-IsJoining L) job.ranks (λ q. only_rows (has_index job (shape job a).rows q) (values a p)) (λ t. t j i))
          ∙ (λ t. sum_of-only_rows L job.ranks (λ q i. has_index job (shape job a).rows q i) (values a p) (row-owner a l s one ranked full) t j i)

      at : (i j : ℕ) → cond (has_index job (shape job a).domain p i) (combined R Add false job.ranks nowhere (λ q. transpose (all_pieces R F job files values q a)) (pick k) i j) None
          ≡ cond (has_index job (shape job a).domain p i) (values a p j i) None
      at i j = ap (λ o. cond (has_index job (shape job a).domain p i) o None) (sums i j)

  -- ---- split matrices

  pub split-piece : (v : ℕ) → (shape job v).sort ≡ Split → (q : ℕ) → all_pieces R F job files values q v ≡ values v q
  split-piece v e q = ap (λ s. only_rows (λ i. is_by_rank s || has_index job (shape job v).rows q i) (values v q)) e

  pub split-made : (spec : MatrixSpec) → maker_of job k ≡ GivenMatrix (record spec { split = true }) → IsMade R F job files k below pick values before p
  split-made spec e =
      ap (made_as R F job files k below pick values before p) e
      ∙ (λ t. only_rows (λ i. is_by_rank (sym sort t) || has_index job (shape job k).rows p i) (dealt_part R F job files k p))
      ∙ sym (ap (λ m. piece_of job (shape job k) p (make_value R F job files pick k values m)) e)
    where
      sort : (shape job k).sort ≡ Split
      sort = ap (λ s. s.sort) (shape-is job k below ∙ ap (shape_by k (first_shapes job k)) e)

  pub assemble-made : (name : List ℕ) (source : ℕ) (onto : Option ℕ) (mode : Mode) → maker_of job k ≡ Made (step.Assemble name source onto mode) → source < k → (shape job source).sort ≡ Split
      → IsOneToOne (layout_of job (shape job source).rows) → ((o : ℕ) → onto ≡ Some o → ((shape job o).sort ≡ Matrix) × ((shape job o).rows ≡ (shape job source).rows)) → IsMade R F job files k below pick values before p
  assemble-made name source onto mode e l s one fits =
      ap (made_as R F job files k below pick values before p) e
      ∙ one-stage R F job files k below pick values before p (Made (step.Assemble name source onto mode)) false e (ap is_dense sort) refl
      ∙ (λ t i j. (combined-to R F job files (to_owners (RowPlan source)) one refl (λ q. all_pieces R F job files values q source) within mode false job.ranks p (onto_piece (all_pieces R F job files values p) onto) (pick k) i j ∙ at i j (has_index job (shape job source).rows p i) refl) t)
      ∙ (λ t. only_rows (λ i. is_by_rank (sym sort t) || has_index job (sym rows t) p i) (combined R mode false job.ranks (onto_or_nowhere R F job files values onto p) (values source) (pick k)))
      ∙ sym (ap (λ m. piece_of job (shape job k) p (make_value R F job files pick k values m)) e)
    where
      assembled : Shape → Shape
      assembled s = record s { sort = Matrix; structure = k }

      same : shape job k ≡ assembled (shape job source)
      same = shape-is job k below ∙ ap (shape_by k (first_shapes job k)) e ∙ ap assembled (shape-first job k source (omega arith) l)

      sort : (shape job k).sort ≡ Matrix
      sort = ap (λ s. s.sort) same

      rows : (shape job k).rows ≡ (shape job source).rows
      rows = ap (λ s. s.rows) same

      within : (q i j : ℕ) → is_some (all_pieces R F job files values q source i j) ≡ true → stands i (rank_rows job files source q) ≡ true
      within q i j h =
          let there : is_some (values source q i j) ≡ true = (λ t. is_some (sym (split-piece source s q) t i j)) ∙ h in
          let place = (before.formed source l).within (ap is_dense s) q i j there in
          ap (λ b. stands i (rows_of (size_of job (shape job source).rows) (size_of job (shape job source).domain) (dealt_places job files b source q))) (ap is_split_sort s)
          ∙ row-stands (size_of job (shape job source).rows) (size_of job (shape job source).domain) (structure job files source q) i j place.0 place.1 (sym (before.placed source q l i j) ∙ there)

      base : (o : Option ℕ) → onto ≡ o → (i j : ℕ) → onto_piece (all_pieces R F job files values p) o i j ≡ cond (has_index job (shape job source).rows p i) (onto_or_nowhere R F job files values o p i j) None
      base None f i j = sym (none-cond (has_index job (shape job source).rows p i))
      base (Some o) f i j = (λ t. cond (is_by_rank ((fits o f).0 t) || has_index job ((fits o f).1 t) p i) (values o p i j) None)

      at : (i j : ℕ) (b : Bool) → has_index job (shape job source).rows p i ≡ b
          → cond b (combined R mode false job.ranks (onto_piece (all_pieces R F job files values p) onto) (λ q. all_pieces R F job files values q source) (pick k) i j) (onto_piece (all_pieces R F job files values p) onto i j)
          ≡ cond b (combined R mode false job.ranks (onto_or_nowhere R F job files values onto p) (values source) (pick k) i j) None
      at i j true h =
          λ t. combine R mode false ((base onto refl i j ∙ ap (λ b. cond b (onto_or_nowhere R F job files values onto p i j) None) h) t) (there (each_rank job.ranks (λ q. split-piece source s q t i j))) (unwrap_or (split-piece source s (pick k i j) t i j) R.nought)
      at i j false h = base onto refl i j ∙ ap (λ b. cond b (onto_or_nowhere R F job files values onto p i j) None) h
