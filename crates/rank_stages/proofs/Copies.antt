-- Rows that are sent as they are have all their columns.
use Rattle.std.proofs.Common.{◌≡◌, ℕ, zero, suc, ◌<◌, ◌≤◌, ◌+◌, ◌*◌, Bool, true, cond, not, ◌||◌, eqb, ltb, List, [], ◌∷◌, ◌++◌, map, filter, length, get_or, Option, None, Some, refl, sym, ap, ap₂, subst, ◌∙◌, arith, lt-ltb, ltb-true, length-append, mul-suc, mul-zero}
use Rattle.std.specs.Prelude.{is_some}
use Rattle.std.proofs.lemmas.Bool.{eq-eqb}
use Rattle.tables.specs.declared.Cell.{Cell}
use Rattle.tables.specs.Indices.{stands, count_from}
use Rattle.tables.specs.Tables.{Table, all_cells, cell_if, row_cells}
use Rattle.map_core.proofs.Members.{stands-filter, and_true}
use Rattle.mm_text.specs.Reading.{File}
use Rattle.letter_codec.specs.Letters.{IsLetter}
use Rattle.letter_codec.specs.declared.kind.Kind.TheVariants.{Nums, Rows}
use Rattle.model_defs.specs.declared.job.Job.{Job}
use Rattle.model_defs.specs.declared.job.Step.TheVariants as step
use Rattle.model_defs.specs.declared.phase.About.TheVariants.{SendNumbers}
use Rattle.model_defs.specs.declared.phase.Plan.TheVariants.{ImportPlan, ExportPlan}
use Rattle.model_defs.specs.declared.shape.Sort.{Sort}
use Rattle.model_defs.specs.declared.shape.Sort.TheVariants.{Vector, Parts, Matrix, Split}
use Rattle.model_defs.specs.Limits.{most_size}
use Rattle.model_defs.specs.Maps.{has_index, list_of, size_of}
use Rattle.model_defs.specs.Makers.{Maker, GivenVector, GivenParts, GivenMatrix, Made, maker_of}
use Rattle.model_defs.specs.Shapes.{is_by_rank, is_dense, shape, shape_by}
use Rattle.model_defs.specs.Transfers.{from_owners, to_owners, transfers_by}
use Rattle.model_defs.specs.Pieces.{piece_of}
use Rattle.model_defs.specs.Phases.{phase_for, send_kind}
use Rattle.model_defs.specs.Plans.{One, one_semiring, one_conversions, lacking, owns, sent_rows, structure_before}
use Rattle.model_defs.specs.Stages.{entries_by, met_after, transfer_at}
use Rattle.model_defs.specs.Letters.{entry_places, sent_places, width, words_of_rows}
use Rattle.model_defs.specs.Laws.{IsFormed, has_cells}
use Rattle.model_defs.specs.Valid.{IsValidMaker}
use Rattle.model_defs.proofs.AllRows.{one_laws, row_laws}
use Rattle.model_defs.proofs.Bounds.{entries-are-small}
use Rattle.model_defs.proofs.Firsts.{all-weaker}
use Rattle.model_defs.proofs.Filters.{and, later}
use Rattle.model_defs.proofs.KnownShapes.{shape-of-made}
use Rattle.model_defs.proofs.Rows.{list-mapped}
use Rattle.model_defs.proofs.Whole.{are_before}
use Rattle.rank_stages.specs.DataLaws.{copied_by, row_places, full_places, IsCopied, CopiesAreFull, CopiesAreData, CopiesHaveForm}
use Rattle.rank_stages.specs.LetterLaws.{row_words}
use Rattle.rank_stages.proofs.ShortLists.{sent-few}

-- ---- all cells of full rows

cells-of-row : (t : Table One) (i a n w : ℕ) → a + n ≤ w → ((j : ℕ) → j < w → is_some (t i j) ≡ true) → row_cells t i (count_from a n) ≡ map (λ j. record { row = i; col = j; value = tt }) (count_from a n)
cells-of-row t i a zero w l h = refl
cells-of-row t i a (suc n) w l h = by (t i a) (h a (omega (arith, l))) (cells-of-row t i (a + 1) n w (omega (arith, l)) h)
  where
    by : (o : Option One) → is_some o ≡ true → row_cells t i (count_from (a + 1) n) ≡ map (λ j. record { row = i; col = j; value = tt }) (count_from (a + 1) n)
        → cell_if i a o ++ row_cells t i (count_from (a + 1) n) ≡ record { row = i; col = a; value = tt } ∷ map (λ j. record { row = i; col = j; value = tt }) (count_from (a + 1) n)
    by None e rest = absurd (let bad : ⊥ = cc in bad)
    by (Some v) e rest = ap (λ cs. record { row = i; col = a; value = tt } ∷ cs) rest

cells-of-rows : (t : Table One) (rows : List ℕ) (w : ℕ) → ((i j : ℕ) → stands i rows ≡ true → j < w → is_some (t i j) ≡ true) → all_cells t rows (count_from 0 w) ≡ full_places w rows
cells-of-rows t [] w h = refl
cells-of-rows t (i ∷ is) w h =
    ap₂ (λ a b. a ++ b)
    (cells-of-row t i 0 w w (omega arith) (λ j l. h i j (ap (λ b. b || stands i is) (eq-eqb i i refl)) l))
    (cells-of-rows t is w (λ x j e l. h x j (later (eqb i x) _ e) l))

abbrev place : ℕ → ℕ → Cell One
place i j = record { row = i; col = j; value = tt }

length-row : (i a n : ℕ) → length (map (place i) (count_from a n)) ≡ n
length-row i a zero = refl
length-row i a (suc n) = ap suc (length-row i (a + 1) n)

length-full : (w : ℕ) (rows : List ℕ) → length (full_places w rows) ≡ w * length rows
length-full w [] = none w
  where
    none : (w : ℕ) → 0 ≡ w * 0
    none w = sym (mul-zero w)
length-full w (i ∷ is) = length-append (row_places w i) (full_places w is) ∙ ap₂ (λ a b. a + b) (length-row i 0 w) (length-full w is) ∙ more w (length is)
  where
    more : (w n : ℕ) → w + w * n ≡ w * suc n
    more w n = let e = mul-suc w n in omega (arith, e)

-- ---- what is copied

module _ (job : Job) (files : List File) (k source : ℕ) (c : IsCopied job files k source) where
  -- where the source has rows, they are full
  piece-full : source < k → (p i j : ℕ) → has_index job (shape job source).rows p i ≡ true → j < (shape job source).columns
      → is_some (piece_of job (shape job source) p (structure_before job files k source) i j) ≡ true
  piece-full less p i j has within =
      ap (λ b. is_some (cond b (structure_before job files k source p i j) None)) (later (is_by_rank (shape job source).sort) _ has)
      ∙ formed.dense c.dense p i j ∙ and (has_cells job (shape job source) (shape job source).sort p i) (ltb j (shape job source).columns) (there (shape job source).sort c.dense) (lt-ltb j _ within)
    where
      formed : IsFormed job (shape job source) (structure_before job files k source)
      formed = (are_before one_laws one_conversions job files (row_laws one_laws job files c.valid c.fitting) (λ v i j. 0) k (let l = c.below in omega (arith, l))).formed source less

      there : (sort : Sort) → is_dense sort ≡ true → has_cells job (shape job source) sort p i ≡ true
      there Vector e = list-mapped job (shape job source).rows p i has
      there Parts e = has
      there Matrix e = absurd (let bad : ⊥ = cc in bad)
      there Split e = absurd (let bad : ⊥ = cc in bad)

  kept : (test : ℕ → Bool) (g : ℕ) (xs : List ℕ) → stands g (filter test xs) ≡ true → (stands g xs ≡ true) × (test g ≡ true)
  kept test g xs e = and_true (stands g xs) (test g) (sym (stands-filter g test xs) ∙ e)

  -- rows that come from owners are the sender's own, and so are those that go to owners
  from-owner : (target p q i : ℕ) → stands i (sent_rows job files (from_owners (ImportPlan (shape job source).rows target)) p q) ≡ true → has_index job (shape job source).rows p i ≡ true
  from-owner target p q i e = (kept (owns job files (ImportPlan (shape job source).rows target) p) i (lacking job files (ImportPlan (shape job source).rows target) q) e).1

  to-owner : (target p q i : ℕ) → stands i (sent_rows job files (to_owners (ExportPlan (shape job source).rows target)) p q) ≡ true → has_index job (shape job source).rows p i ≡ true
  to-owner target p q i e =
      (kept (λ g. not (owns job files (ExportPlan (shape job source).rows target) p g)) i (list_of job (shape job source).rows p)
      (kept (owns job files (ExportPlan (shape job source).rows target) q) i (lacking job files (ExportPlan (shape job source).rows target) p) e).0).0

  -- what is needed of the statement
  record IsSource (m : Maker) : Type 0 where
    less : source < k
    columns : (shape job k).columns ≡ (shape job source).columns
    dense : is_dense (shape job k).sort ≡ true
    sent : (p q i : ℕ) → stands i (sent_rows job files (get_or (transfers_by job k m) 0 (from_owners (ImportPlan 0 0))) p q) ≡ true → has_index job (shape job source).rows p i ≡ true
    entries : (p : ℕ) (w : _) (mine : ℕ → Table One) (got : Table One) → entries_by one_semiring one_conversions job files p k w 0 mine got m ≡ mine source

  is-source : IsSource (maker_of job k)
  is-source = by (maker_of job k) c.is (c.valid.values k c.below) (shape-of-made job c.valid k c.below)
    where
      by : (m : Maker) → copied_by m ≡ Some source → IsValidMaker job k m → shape job k ≡ shape_by k (shape job) m → IsSource m
      by (GivenVector spec) e v g = absurd (let bad : ⊥ = cc in bad)
      by (GivenParts spec) e v g = absurd (let bad : ⊥ = cc in bad)
      by (GivenMatrix spec) e v g = absurd (let bad : ⊥ = cc in bad)
      by (Made (step.Move name s m)) e v g =
          let same : s ≡ source = cc in
          subst (λ x. IsSource (Made (step.Move name x m))) (sym same)
          (record {
            less = subst (λ x. x < k) same v.0;
            columns = ap (λ x. x.columns) g ∙ ap (λ x. (shape job x).columns) same;
            dense = ap (λ x. is_dense x.sort) g ∙ ap (λ x. is_dense (shape job x).sort) same ∙ c.dense;
            sent = λ p q i h. from-owner m p q i h;
            entries = λ p w mine got. refl;
          })
      by (Made (step.Import name s onto mode)) e v g =
          let same : s ≡ source = cc in
          subst (λ x. IsSource (Made (step.Import name x onto mode))) (sym same)
          (record {
            less = subst (λ x. x < k) same v.0.0;
            columns = ap (λ x. x.columns) g ∙ sym v.3 ∙ ap (λ x. (shape job x).columns) same;
            dense = ap (λ x. is_dense x.sort) g ∙ ap is_dense v.1.1;
            sent = λ p q i h. from-owner (shape job onto).rows p q i h;
            entries = λ p w mine got. refl;
          })
      by (Made (step.Export name s onto mode)) e v g =
          let same : s ≡ source = cc in
          subst (λ x. IsSource (Made (step.Export name x onto mode))) (sym same)
          (record {
            less = subst (λ x. x < k) same v.0.0;
            columns = ap (λ x. x.columns) g ∙ sym v.3 ∙ ap (λ x. (shape job x).columns) same;
            dense = ap (λ x. is_dense x.sort) g ∙ ap is_dense v.1.1;
            sent = λ p q i h. to-owner (shape job onto).rows p q i h;
            entries = λ p w mine got. refl;
          })
      by (Made (step.Spread name s m)) e v g =
          let same : s ≡ source = cc in
          subst (λ x. IsSource (Made (step.Spread name x m))) (sym same)
          (record {
            less = subst (λ x. x < k) same v.0.0;
            columns = ap (λ x. x.columns) g ∙ ap (λ x. (shape job x).columns) same;
            dense = ap (λ x. is_dense x.sort) g;
            sent = λ p q i h. from-owner m p q i h;
            entries = λ p w mine got. refl;
          })
      by (Made (step.Update name x y alpha beta)) e v g = absurd (let bad : ⊥ = cc in bad)
      by (Made (step.Scale name value alpha)) e v g = absurd (let bad : ⊥ = cc in bad)
      by (Made (step.Apply name a x y alpha beta transposed)) e v g = absurd (let bad : ⊥ = cc in bad)
      by (Made (step.Transpose name a)) e v g = absurd (let bad : ⊥ = cc in bad)
      by (Made (step.Multiply name a b)) e v g = absurd (let bad : ⊥ = cc in bad)
      by (Made (step.Add name a b alpha beta)) e v g = absurd (let bad : ⊥ = cc in bad)
      by (Made (step.Assemble name s onto mode)) e v g = absurd (let bad : ⊥ = cc in bad)
      by (Made (step.Print value)) e v g = absurd (let bad : ⊥ = cc in bad)

  width-is : width job files k ≡ (shape job k).columns
  width-is = ap (λ b. cond b (shape job k).columns (size_of job (shape job k).domain)) is-source.dense

  pub full : (p q : ℕ) → sent_places job files k 0 p q ≡ full_places (shape job k).columns (sent_rows job files (transfer_at job k 0) p q)
  full p q =
      ap (λ w. all_cells (entry_places job files p k 0) (sent_rows job files (transfer_at job k 0) p q) (count_from 0 w)) width-is
      ∙ cells-of-rows (entry_places job files p k 0) (sent_rows job files (transfer_at job k 0) p q) (shape job k).columns
      (λ i j e l. ap (λ t. is_some (t i j)) (is-source.entries p _ _ (met_after one_semiring one_conversions job files (λ v a b. 0) k (structure_before job files k) 0 p)) ∙ piece-full is-source.less p i j (is-source.sent p q i e) (subst (λ w. j < w) is-source.columns l))

  pub kind-is : send_kind job k ≡ Nums
  kind-is = ap (λ b. cond b Nums Rows) is-source.dense

  pub words-are : (p q : ℕ) → row_words job files k 0 p q ≡ sent_rows job files (transfer_at job k 0) p q
  words-are p q = ap (λ kind. words_of_rows job files kind (entry_places job files p k 0) (width job files k) (sent_rows job files (transfer_at job k 0) p q)) kind-is

  pub data-letter : (p q : ℕ) (numbers : List ℕ) → length numbers ≡ 32 * length (sent_places job files k 0 p q) → IsLetter Nums (sent_rows job files (transfer_at job k 0) p q) numbers
  data-letter p q numbers long = record {
    few = (let l = sent-few job files c.valid (transfer_at job k 0) p q in omega (arith, l));
    fit = all-weaker (λ w. ltb w most_size) (λ w. ltb w 18446744073709551616) (λ w e. lt-ltb w 18446744073709551616 (let l = ltb-true w most_size e in omega (arith, l)))
        (sent_rows job files (transfer_at job k 0) p q) (entries-are-small job files (phase_for k Nums (SendNumbers 0)) (record { phase = 0; from = p; to = q }) c.valid);
    count = length (sent_places job files k 0 p q);
    pieces = long;
    form = ((shape job k).columns, ap length (full p q) ∙ length-full (shape job k).columns (sent_rows job files (transfer_at job k 0) p q));
  }

pub copies_are_full : CopiesAreFull
copies_are_full = λ job files k source p q c. full job files k source c p q

pub copies_are_data : CopiesAreData
copies_are_data = λ job files k source p q c. (kind-is job files k source c, words-are job files k source c p q)

pub copies_have_form : CopiesHaveForm
copies_have_form = λ job files k source p q numbers c long. data-letter job files k source c p q numbers long
