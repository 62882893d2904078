-- Matrices that statements make of rows of others, as they are begun.
use Rattle.std.proofs.Common.{◌≡◌, ℕ, ◌<◌, inl, true, false, List, [], ◌∷◌, length, get_or, map, Option, None, Some, refl, sym, ap, ◌∙◌, subst, arith}
use Rattle.std.specs.Prelude.{is_some, slice_get}
use Rattle.std.proofs.lemmas.Option.{same_Some}
use Rattle.scalar_laws.specs.Semiring.{Semiring}
use Rattle.scalar_laws.specs.Conversions.{Conversions}
use Rattle.tables.specs.Tables.{Table, nowhere}
use Rattle.map_core.specs.Plans.{PlanLists, reversed}
use Rattle.combine_modes.specs.declared.mode.Mode.{Mode}
use Rattle.combine_modes.specs.declared.mode.Mode.TheVariants.{Add}
use Rattle.crs_matrix.specs.ByRow.{by_row}
use Rattle.crs_matrix.specs.Matrices.{crs_table}
use Rattle.crs_matrix.specs.Rows.{RowCells, row_table}
use Rattle.matrix_moves.specs.Arrivals.{HasTargets, after_table}
use Rattle.matrix_moves.specs.Sources.{own_rows}
use Rattle.matrix_moves.proofs.Empty.{new-matrices-are-empty}
use Rattle.mm_text.specs.Reading.{File}
use Rattle.multivector.specs.Vectors.{VectorState}
use Rattle.peers.specs.Protocols.{Letter}
use Rattle.model_defs.specs.declared.job.Job.{Job}
use Rattle.model_defs.specs.declared.job.Step.TheVariants as step
use Rattle.model_defs.specs.declared.phase.Plan.{Plan}
use Rattle.model_defs.specs.declared.phase.Plan.TheVariants.{ColumnPlan, ImportPlan, RowPlan}
use Rattle.model_defs.specs.declared.phase.Transfer.{Transfer}
use Rattle.model_defs.specs.declared.shape.Shape.{Shape}
use Rattle.model_defs.specs.Machine.{arrivals}
use Rattle.model_defs.specs.Makers.{Maker, Made, maker_of, value_count}
use Rattle.model_defs.specs.Maps.{list_of}
use Rattle.model_defs.specs.Operations.{transpose}
use Rattle.model_defs.specs.ShapeLists.{at_list}
use Rattle.model_defs.specs.Shapes.{is_dense, is_split_sort, shape}
use Rattle.model_defs.specs.Stages.{entries_by, first_pieces, gathered_after, onto_piece, rank_entries, transfer_at}
use Rattle.model_defs.specs.Transfers.{from_owners, owner_map, to_owners, transfers}
use Rattle.model_defs.specs.Valid.{IsValid}
use Rattle.vector_moves.specs.Moves.{AreMoves, own_sources, own_targets}
use Rattle.matrix_arrivals.specs.RowPlans.{IsServing}
use Rattle.matrix_arrivals.specs.RowsBegun.{is_plain}
use Rattle.matrix_arrivals.proofs.Begun.{assembled-rows-are-combined}
use Rattle.plan_phases.specs.BookStages.{IsMadePlan}
use Rattle.rank_plans.specs.Books.{Book, made_of}
use Rattle.rank_share.specs.declared.share.Share.{Share}
use Rattle.value_phases.specs.ValueKinds.{IsGathered, IsProduct, IsSum, IsTransposed, IsWholeBefore}
use Rattle.value_phases.specs.ValuePhases.{IsMapPlan}
use Rattle.rank_pieces.specs.declared.pieces.Piece.{Piece}
use Rattle.rank_pieces.specs.declared.pieces.Piece.TheVariants as of
use Rattle.rank_pieces.specs.declared.pieces.RankMatrix.{RankMatrix}
use Rattle.rank_pieces.specs.Pieces.{HasRows, IsOwnPiece}
use Rattle.rank_pieces.proofs.OwnPieces.{before as first-piece}
use Rattle.rank_makings.specs.declared.coming.RowsComing.{RowsComing}
use Rattle.rank_makings.specs.declared.coming.RowSource.TheVariants as row
use Rattle.rank_makings.specs.declared.gathering.Assembly.{Assembly}
use Rattle.rank_makings.specs.declared.gathering.Factors.{Factors}
use Rattle.rank_makings.specs.declared.gathering.Summands.{Summands}
use Rattle.rank_makings.specs.Beginnings.{CanBegin}
use Rattle.rank_makings.specs.Comings.{AreRowsComing, IsBetween, IsSentRows, first_gathered}
use Rattle.rank_makings.specs.Gathering.{AreAssembled, AreFactors, AreSummands}
use Rattle.rank_makings.specs.Lists.{source_list, target_list}
use Rattle.rank_makings.proofs.ApplyAnswers.{matrix-there, shape-listed, shape-read}
use Rattle.rank_makings.proofs.ApplyPlans.{IsAlong, columns-along, from-serves, rows-along, split-rows, to-serves}
use Rattle.rank_makings.proofs.BegunRows.{rows-begun, rows-begun-onto}
use Rattle.rank_makings.proofs.CopyPlans.{import-serves}

module _ {S : Type 0} {R : Semiring S} {F : Conversions S} {job : Job} {files : List File} {me : ℕ} {share : Share} {shapes : List Shape} {pieces : List (Piece S)} {given : List Letter} {book : Book}
    {k stage : ℕ} {came : Option (VectorState S)} (can : CanBegin R F job files me share shapes pieces given book k stage came) where
  abbrev valid : IsValid job
  valid = can.at.input.valid

  abbrev mine : ℕ → Table S
  mine = first_pieces R F job files me (arrivals R F job files me given) k

  abbrev got : Table S
  got = gathered_after R F job files me (arrivals R F job files me given) k (first_pieces R F job files me (arrivals R F job files me given) k) stage

  -- ---- one transfer

  transfer-is : (t : Transfer) → transfers job k ≡ t ∷ [] → transfer_at job k stage ≡ t
  transfer-is t e =
      let known = can.known in
      let one = ap (λ ts. length ts) e in
      let first : stage ≡ 0 = omega (arith, known, one) in
      (λ i. get_or (e i) (first i) (from_owners (ImportPlan 0 0)))

  goes : (t : Transfer) → transfers job k ≡ t ∷ [] → (from to from_is to_is : List ℕ) (lists plan : PlanLists) → from ≡ from_is → to ≡ to_is → lists ≡ plan
      → from_is ≡ source_list job files me pieces t → to_is ≡ target_list job files me pieces t → IsServing job files t me from_is to_is plan
      → IsBetween R F job files me pieces given k stage from to lists
  goes t e from to a b lists plan from_is to_is lists_are source target serves = record {
    valid = valid;
    fitting = can.at.input.fitting;
    within = can.at.input.rank;
    below = can.at.below;
    known = can.known;
    source_is = from_is ∙ source ∙ ap (source_list job files me pieces) (sym (transfer-is t e));
    target_is = to_is ∙ target ∙ ap (target_list job files me pieces) (sym (transfer-is t e));
    serves =
        subst (λ u. IsServing job files u me from to lists) (sym (transfer-is t e))
        (subst (λ l. IsServing job files t me l to lists) (sym from_is)
        (subst (λ l. IsServing job files t me a l lists) (sym to_is)
        (subst (λ p. IsServing job files t me a b p) (sym lists_are) serves)));
  }

  entries-are : (m : Maker) → maker_of job k ≡ m → entries_by R F job files me k (transfer_at job k stage).way stage mine got m ≡ rank_entries R F job files me (arrivals R F job files me given) k stage
  entries-are m e = ap (entries_by R F job files me k (transfer_at job k stage).way stage mine got) (sym e)

  -- ---- pieces before

  own-of : {v : ℕ} {m : RankMatrix S} → slice_get pieces v ≡ Some (of.Matrix m) → IsOwnPiece R F job files me given v (of.Matrix m)
  own-of {v} {m} at = can.at.pieces_are.each v (of.Matrix m) at

  first-of : {v : ℕ} {m : RankMatrix S} → v < k → slice_get pieces v ≡ Some (of.Matrix m) → crs_table m.matrix ≡ mine v
  first-of {v} {m} l at = (own-of at).table ∙ sym (first-piece R F job files me given k v l can.at.below)

  rows-of : (v : ℕ) {m : RankMatrix S} → is_split_sort (shape job v).sort ≡ false → slice_get pieces v ≡ Some (of.Matrix m) → m.matrix.graph.rows ≡ list_of job (shape job v).rows me
  rows-of v {m} whole at = (subst (λ b. HasRows job files me b v m) whole (own-of at).of.rows).0

  before-known : {v : ℕ} → v < k → v < value_count job
  before-known l = let below = can.at.below in omega (arith, l, below)

  -- the rank's own rows
  own-list : (d : Shape) (own : List ℕ) → own ≡ list_of job (get_or shapes k d).rows me → own ≡ list_of job (shape job k).rows me
  own-list d own is = is ∙ ap (λ s. list_of job s.rows me) (shape-read can.at k d can.at.below)

  pub rows-mapped : (d : Shape) → (get_or shapes k d).rows < length job.maps
  rows-mapped d = subst (λ s. s.rows < length job.maps) (sym (shape-read can.at k d can.at.below)) (can.at.phased.shapes k can.at.below).known

  pub shape-there : k < length shapes
  shape-there = shape-listed can.at k can.at.below

  -- ---- a transpose

  module _ (is : IsTransposed job k) {v : ℕ} (named : v ≡ is.a) where
    pub transposed-there : (m : RankMatrix S) × (slice_get pieces v ≡ Some (of.Matrix m))
    transposed-there = subst (λ w. (m : RankMatrix S) × (slice_get pieces w ≡ Some (of.Matrix m))) (sym named) (matrix-there can.at is.a is.operand.before is.operand.sparse)

    module _ {m : RankMatrix S} (at_v : slice_get pieces v ≡ Some (of.Matrix m)) {turned a : RowCells S} (rows_are : turned.rows ≡ m.matrix.graph.cols) (same : a ≡ turned)
        {plan lists : PlanLists} (shared : plan ≡ m.columns) (back : lists ≡ reversed plan) (d : Shape) {own : List ℕ} (own_is : own ≡ list_of job (get_or shapes k d).rows me)
        {empty : RowCells S} (empty_is : empty ≡ record { rows = own; cells = map (λ _. []) own }) where
      transposed-at : slice_get pieces is.a ≡ Some (of.Matrix m)
      transposed-at = ap (slice_get pieces) (sym named) ∙ at_v

      turned-along : IsAlong job files me pieces is.a (ColumnPlan is.a) m.matrix.graph.cols m.columns
      turned-along = columns-along job files me pieces (own-of transposed-at).of transposed-at

      transposed-between : IsBetween R F job files me pieces given k stage a.rows empty.rows lists
      transposed-between =
          goes (to_owners (ColumnPlan is.a)) is.transfers_are a.rows empty.rows m.matrix.graph.cols (list_of job (shape job is.a).domain me) lists (reversed m.columns)
          (ap (λ r. r.rows) same ∙ rows_are) (ap (λ r. r.rows) empty_is ∙ own-list d own own_is ∙ ap (λ n. list_of job n me) is.made.rows) (back ∙ ap reversed shared)
          (sym turned-along.list_is) refl (to-serves job files me pieces valid turned-along)

      pub transposed-moves : AreMoves a.rows empty.rows (own_sources lists) (own_targets lists)
      transposed-moves = transposed-between.serves.own

      pub transposed-targets : HasTargets lists empty.rows
      transposed-targets = transposed-between.serves.targets

      pub transposed-begun : row_table turned ≡ transpose (crs_table m.matrix) → (g : RowsComing S) → g.source ≡ row.Own turned → g.arriving.plan ≡ lists → g.arriving.mode ≡ Add
          → g.arriving.fill.rows ≡ empty.rows → row_table g.arriving.fill ≡ after_table R Add (row_table empty) (own_rows lists a)
          → AreRowsComing R F job files me pieces given k stage (first_gathered R F job files me pieces given k stage) g
      transposed-begun table_is g from kept by on table =
          rows-begun R F job files me pieces given k stage can.phase can.sends can.heard is.made.structured.sparse (ap is_plain is.is) a empty lists g
          (subst (λ r. IsSentRows pieces r a) (sym from) (sym same)) transposed-between
          (ap row_table same ∙ table_is ∙ ap transpose (first-of is.operand.before transposed-at) ∙ entries-are _ is.is)
          (ap row_table empty_is ∙ new-matrices-are-empty own) kept by on table

  -- ---- a product

  module _ (is : IsProduct job k) {o : Factors} (said : AreFactors is o) where
    pub left-there : (m : RankMatrix S) × (slice_get pieces o.a ≡ Some (of.Matrix m))
    left-there = subst (λ w. (m : RankMatrix S) × (slice_get pieces w ≡ Some (of.Matrix m))) (sym said.a) (matrix-there can.at is.a is.left.before is.left.sparse)

    pub right-there : (m : RankMatrix S) × (slice_get pieces o.b ≡ Some (of.Matrix m))
    right-there = subst (λ w. (m : RankMatrix S) × (slice_get pieces w ≡ Some (of.Matrix m))) (sym said.b) (matrix-there can.at is.b is.right.before is.right.sparse)

    module _ {ma mb : RankMatrix S} (at_a : slice_get pieces o.a ≡ Some (of.Matrix ma)) (at_b : slice_get pieces o.b ≡ Some (of.Matrix mb)) {a : RowCells S} (same : a ≡ by_row mb.matrix)
        {lists : PlanLists} (shared : lists ≡ ma.columns) {cols : List ℕ} (cols_are : cols ≡ ma.matrix.graph.cols)
        {empty : RowCells S} (empty_is : empty ≡ record { rows = cols; cells = map (λ _. []) cols }) where
      factor-at : slice_get pieces is.a ≡ Some (of.Matrix ma)
      factor-at = ap (slice_get pieces) (sym said.a) ∙ at_a

      sent-at : slice_get pieces is.b ≡ Some (of.Matrix mb)
      sent-at = ap (slice_get pieces) (sym said.b) ∙ at_b

      factor-along : IsAlong job files me pieces is.a (ColumnPlan is.a) ma.matrix.graph.cols ma.columns
      factor-along = columns-along job files me pieces (own-of factor-at).of factor-at

      product-between : IsBetween R F job files me pieces given k stage a.rows empty.rows lists
      product-between =
          goes (from_owners (ColumnPlan is.a)) is.transfers_are a.rows empty.rows (list_of job (shape job is.a).domain me) ma.matrix.graph.cols lists ma.columns
          (ap (λ r. r.rows) same ∙ rows-of is.b is.right.whole sent-at ∙ ap (λ n. list_of job n me) (sym is.meet)) (ap (λ r. r.rows) empty_is ∙ cols_are) shared
          refl (sym factor-along.list_is) (from-serves job files me pieces valid factor-along)

      pub product-moves : AreMoves a.rows empty.rows (own_sources lists) (own_targets lists)
      product-moves = product-between.serves.own

      pub product-targets : HasTargets lists empty.rows
      product-targets = product-between.serves.targets

      pub product-begun : row_table a ≡ crs_table mb.matrix → (g : RowsComing S) → g.source ≡ row.Piece o.b → g.arriving.plan ≡ lists → g.arriving.mode ≡ Add
          → g.arriving.fill.rows ≡ empty.rows → row_table g.arriving.fill ≡ after_table R Add (row_table empty) (own_rows lists a)
          → AreRowsComing R F job files me pieces given k stage (first_gathered R F job files me pieces given k stage) g
      product-begun table_is g from kept by on table =
          rows-begun R F job files me pieces given k stage can.phase can.sends can.heard is.made.structured.sparse (ap is_plain is.is) a empty lists g
          (subst (λ r. IsSentRows pieces r a) (sym from) (mb, at_b, sym same)) product-between
          (table_is ∙ first-of is.right.before sent-at ∙ entries-are _ is.is)
          (ap row_table empty_is ∙ new-matrices-are-empty cols) kept by on table

  -- ---- a sum

  module _ (is : IsSum job k) {o : Summands} (said : AreSummands is o) where
    pub summand-there : (m : RankMatrix S) × (slice_get pieces o.b ≡ Some (of.Matrix m))
    summand-there = subst (λ w. (m : RankMatrix S) × (slice_get pieces w ≡ Some (of.Matrix m))) (sym said.b) (matrix-there can.at is.b is.right.before is.right.sparse)

    sum-plan : (transfer_at job k stage).plan ≡ ImportPlan (shape job is.b).rows (shape job is.a).rows
    sum-plan = ap (λ t. t.plan) (transfer-is (from_owners (ImportPlan (shape job is.b).rows (shape job is.a).rows)) is.transfers_are)

    sum-made : (lists : PlanLists) × (made_of book (transfer_at job k stage).plan ≡ Some lists) × IsMadePlan job files me (transfer_at job k stage).plan lists
    sum-made = can.made (record {
      source = (shape job is.b).rows;
      target = (shape job is.a).rows;
      is = inl sum-plan;
      known_source = (can.at.phased.shapes is.b (before-known is.right.before)).known;
      known_target = (can.at.phased.shapes is.a (before-known is.left.before)).known;
    })

    module _ {n : ℕ} (rows_are : n ≡ (at_list shapes o.b).rows) (e : Shape) where
      plan-as : ImportPlan n (get_or shapes k e).rows ≡ (transfer_at job k stage).plan
      plan-as =
          (λ i. ImportPlan
          ((rows_are ∙ ap (λ f. (f o.b).rows) can.at.shapes_are ∙ ap (λ w. (shape job w).rows) said.b) i)
          ((ap (λ s. s.rows) (shape-read can.at k e can.at.below) ∙ is.made.rows) i))
          ∙ sym sum-plan

      pub sum-plan-there : is_some (made_of book (ImportPlan n (get_or shapes k e).rows)) ≡ true
      sum-plan-there = ap (λ p. is_some (made_of book p)) plan-as ∙ ap is_some sum-made.1

      module _ {mb : RankMatrix S} (at_b : slice_get pieces o.b ≡ Some (of.Matrix mb)) {a : RowCells S} (same : a ≡ by_row mb.matrix)
          {made : PlanLists} (kept_is : Some made ≡ made_of book (ImportPlan n (get_or shapes k e).rows)) {lists : PlanLists} (lists_are : lists ≡ made)
          (f : Shape) {own : List ℕ} (own_is : own ≡ list_of job (get_or shapes k f).rows me) {empty : RowCells S} (empty_is : empty ≡ record { rows = own; cells = map (λ _. []) own }) where
        summand-at : slice_get pieces is.b ≡ Some (of.Matrix mb)
        summand-at = ap (slice_get pieces) (sym said.b) ∙ at_b

        made-same : lists ≡ sum-made.0
        made-same = lists_are ∙ same_Some made sum-made.0 (kept_is ∙ ap (made_of book) plan-as ∙ sum-made.1)

        sum-between : IsBetween R F job files me pieces given k stage a.rows empty.rows lists
        sum-between =
            goes (from_owners (ImportPlan (shape job is.b).rows (shape job is.a).rows)) is.transfers_are a.rows empty.rows (list_of job (shape job is.b).rows me) (list_of job (shape job is.a).rows me) lists sum-made.0
            (ap (λ r. r.rows) same ∙ rows-of is.b is.right.whole summand-at) (ap (λ r. r.rows) empty_is ∙ own-list f own own_is ∙ ap (λ n. list_of job n me) is.made.rows) made-same
            refl refl
            (import-serves job files me (shape job is.b).rows (shape job is.a).rows sum-made.0 valid (subst (λ p. IsMadePlan job files me p sum-made.0) sum-plan sum-made.2)).serves

        pub sum-moves : AreMoves a.rows empty.rows (own_sources lists) (own_targets lists)
        sum-moves = sum-between.serves.own

        pub sum-targets : HasTargets lists empty.rows
        sum-targets = sum-between.serves.targets

        pub sum-begun : row_table a ≡ crs_table mb.matrix → (g : RowsComing S) → g.source ≡ row.Piece o.b → g.arriving.plan ≡ lists → g.arriving.mode ≡ Add
            → g.arriving.fill.rows ≡ empty.rows → row_table g.arriving.fill ≡ after_table R Add (row_table empty) (own_rows lists a)
            → AreRowsComing R F job files me pieces given k stage (first_gathered R F job files me pieces given k stage) g
        sum-begun table_is g from kept by on table =
            rows-begun R F job files me pieces given k stage can.phase can.sends can.heard is.made.structured.sparse (ap is_plain is.is) a empty lists g
            (subst (λ r. IsSentRows pieces r a) (sym from) (mb, at_b, sym same)) sum-between
            (table_is ∙ first-of is.right.before summand-at ∙ entries-are _ is.is)
            (ap row_table empty_is ∙ new-matrices-are-empty own) kept by on table

  -- ---- a matrix that is assembled of a split one

  module _ (is : IsGathered job k) {o : Assembly} (said : AreAssembled is o) where
    pub split-there : (m : RankMatrix S) × (slice_get pieces o.source ≡ Some (of.Matrix m))
    split-there = subst (λ w. (m : RankMatrix S) × (slice_get pieces w ≡ Some (of.Matrix m))) (sym said.source) (matrix-there can.at is.source is.before is.sparse)

    whole-onto : (b : ℕ) → o.base ≡ Some b → IsWholeBefore job k b × ((shape job b).rows ≡ (shape job is.source).rows)
    whole-onto b e = is.onto b (sym said.base ∙ e)

    -- what it is assembled onto
    pub base-there : (d : Shape) (b : ℕ) → o.base ≡ Some b → (m : RankMatrix S) × ((slice_get pieces b ≡ Some (of.Matrix m)) × (m.matrix.graph.rows ≡ list_of job (get_or shapes k d).rows me))
    base-there d b e =
        let whole = whole-onto b e in
        let there = matrix-there can.at b whole.0.before whole.0.sparse in
        (there.0, (there.1, rows-of b whole.0.whole there.1 ∙ ap (λ n. list_of job n me) (whole.1 ∙ sym is.made.rows) ∙ sym (ap (λ s. list_of job s.rows me) (shape-read can.at k d can.at.below))))

    module _ {m : RankMatrix S} (at_s : slice_get pieces o.source ≡ Some (of.Matrix m)) where
      split-at : slice_get pieces is.source ≡ Some (of.Matrix m)
      split-at = ap (slice_get pieces) (sym said.source) ∙ at_s

      pub has-row-plan : (plan : PlanLists) × (m.rows ≡ Some plan)
      has-row-plan = split-rows job files me pieces (own-of split-at).of split-at (is_split_sort (shape job is.source).sort) (own-of split-at).of.rows refl is.split

      module _ {a : RowCells S} (same : a ≡ by_row m.matrix) {made plan lists : PlanLists} (made_is : m.rows ≡ Some made) (shared : plan ≡ made) (back : lists ≡ reversed plan)
          (d : Shape) (base : RowCells S) (on_own : base.rows ≡ list_of job (get_or shapes k d).rows me) where
        split-along : IsAlong job files me pieces is.source (RowPlan is.source) m.matrix.graph.rows made
        split-along = rows-along job files me pieces (own-of split-at).of split-at (is_split_sort (shape job is.source).sort) (own-of split-at).of.rows made made_is

        gathered-between : IsBetween R F job files me pieces given k stage a.rows base.rows lists
        gathered-between =
            goes (to_owners (RowPlan is.source)) is.transfers_are a.rows base.rows m.matrix.graph.rows (list_of job (shape job is.source).rows me) lists (reversed made)
            (ap (λ r. r.rows) same) (own-list d base.rows on_own ∙ ap (λ n. list_of job n me) is.made.rows) (back ∙ ap reversed shared)
            (sym split-along.list_is) refl (to-serves job files me pieces valid split-along)

        pub gathered-moves : AreMoves a.rows base.rows (own_sources lists) (own_targets lists)
        gathered-moves = gathered-between.serves.own

        pub gathered-targets : HasTargets lists base.rows
        gathered-targets = gathered-between.serves.targets

        module _ (none : o.base ≡ None → row_table base ≡ nowhere) (some : (b : ℕ) (x : RankMatrix S) → o.base ≡ Some b → slice_get pieces b ≡ Some (of.Matrix x) → row_table base ≡ crs_table x.matrix) where
          old-is : (b : Option ℕ) → o.base ≡ b → row_table base ≡ onto_piece mine b
          old-is None e = none e
          old-is (Some b) e =
              let whole = whole-onto b e in
              let there = matrix-there can.at b whole.0.before whole.0.sparse in
              some b there.0 e there.1 ∙ first-of whole.0.before there.1

          pub gathered-begun : row_table a ≡ crs_table m.matrix → (g : RowsComing S) → g.source ≡ row.Piece o.source → g.arriving.plan ≡ lists → g.arriving.mode ≡ o.mode
              → g.arriving.fill.rows ≡ base.rows → row_table g.arriving.fill ≡ after_table R o.mode (row_table base) (own_rows lists a)
              → AreRowsComing R F job files me pieces given k stage (first_gathered R F job files me pieces given k stage) g
          gathered-begun table_is g from kept by on table =
              let combined = assembled-rows-are-combined R F job files k stage me (arrivals R F job files me given) is.name is.source is.base is.mode is.is in
              rows-begun-onto R F job files me pieces given k stage can.phase can.sends can.heard is.made.structured.sparse a base lists o.mode g
              (subst (λ r. IsSentRows pieces r a) (sym from) (m, at_s, sym same)) gathered-between
              (table_is ∙ first-of is.before split-at ∙ entries-are _ is.is)
              (combined.0 ∙ sym said.mode) (old-is o.base refl ∙ ap (onto_piece mine) said.base ∙ sym combined.1) kept by on table
