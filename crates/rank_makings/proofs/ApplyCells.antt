-- Copies of an apply, as a stage of it is begun.
use Rattle.std.proofs.Common.{◌≡◌, ℕ, ◌≤◌, Bool, true, false, cond, List, [], Some, refl, sym, ap, ◌∙◌, subst}
use Rattle.std.specs.Prelude.{slice_get}
use Rattle.scalar_laws.specs.Semiring.{Semiring}
use Rattle.scalar_laws.specs.Conversions.{Conversions}
use Rattle.tables.specs.Indices.{stands}
use Rattle.map_core.specs.Plans.{PlanLists}
use Rattle.combine_modes.specs.declared.mode.Mode.{Mode}
use Rattle.combine_modes.specs.declared.mode.Mode.TheVariants.{Add, Replace}
use Rattle.crs_matrix.specs.Matrices.{crs_table}
use Rattle.mm_text.specs.Reading.{File}
use Rattle.multivector.specs.Vectors.{HasSameShape, VectorState}
use Rattle.peers.specs.Protocols.{Letter}
use Rattle.model_defs.specs.declared.job.Job.{Job}
use Rattle.model_defs.specs.declared.phase.Plan.{Plan}
use Rattle.model_defs.specs.Machine.{arrivals}
use Rattle.model_defs.specs.Maps.{has_index, list_of}
use Rattle.model_defs.specs.Plans.{rank_list_by}
use Rattle.model_defs.specs.Shapes.{is_split_sort, shape}
use Rattle.model_defs.specs.Stages.{first_pieces, rank_entries, target_at, transfer_at}
use Rattle.model_defs.specs.Transfers.{from_owners, owner_map}
use Rattle.rank_matrices.specs.Matrices.{source_list}
use Rattle.rank_transfers.specs.Arrivals.{HasFewRows, HasTargets, after_table, own_rows}
use Rattle.rank_values.specs.Vectors.{global_table, lines_on}
use Rattle.vector_moves.specs.Moves.{AreMoves, own_sources, own_targets}
use Rattle.matrix_arrivals.specs.RowPlans.{IsServing}
use Rattle.dense_arrivals.specs.Applies.{IsGoodApply, first_transfer, is_from_owners}
use Rattle.dense_arrivals.specs.DenseBegun.{AgreeOn}
use Rattle.dense_arrivals.proofs.Begun.{cells-are-begun}
use Rattle.dense_arrivals.proofs.Made.{applies-are-onto-noughts, applies-have-transfers, copies-of-x}
use Rattle.rank_pieces.specs.declared.pieces.Piece.{Piece}
use Rattle.rank_pieces.specs.declared.pieces.Piece.TheVariants as of
use Rattle.rank_pieces.specs.declared.pieces.RankMatrix.{RankMatrix}
use Rattle.rank_pieces.specs.Pieces.{HasRows, IsMatrixOf, IsOwnPiece}
use Rattle.rank_pieces.proofs.OwnPieces.{before as first-piece}
use Rattle.rank_makings.specs.declared.coming.CellsComing.{CellsComing}
use Rattle.rank_makings.specs.declared.coming.CellSource.TheVariants as cell
use Rattle.rank_makings.specs.Applying.{AreCopiesOf, IsApplying, starts_with_copies}
use Rattle.rank_makings.specs.Comings.{AreCellsComing, IsCellSource, first_gathered}
use Rattle.rank_makings.specs.Lists.{source_list as sent_list, target_list as gathering_list}
use Rattle.rank_makings.proofs.ApplyPlans.{IsAlong, along, by-rows, from-few, from-serves}

-- What is asked where the rows that stay of a vector are combined into another one by these lists.
pub record MayArrive {S : Type 0} (sent onto : VectorState S) (lists : PlanLists) : Type 0 where
  pub columns : sent.columns ≡ onto.columns
  pub some_column : 1 ≤ onto.columns
  pub few_columns : onto.columns ≤ 16
  pub few_rows : HasFewRows lists
  pub own : AreMoves sent.map onto.map (own_sources lists) (own_targets lists)
  pub targets : HasTargets lists onto.map

module _ {S : Type 0} {R : Semiring S} {F : Conversions S} {job : Job} {files : List File} {me : ℕ} {pieces : List (Piece S)} {given : List Letter} {k stage value : ℕ}
    {m : RankMatrix S} {x : VectorState S} {transposed : Bool} (c : IsApplying R F job files me pieces given k stage value m x transposed) where
  abbrev pub good : IsGoodApply job files k
  good = record { valid = c.at.input.valid; fitting = c.at.input.fitting; apply = c.apply }

  own-m : IsOwnPiece R F job files me given c.apply.a (of.Matrix m)
  own-m = c.at.pieces_are.each c.apply.a (of.Matrix m) c.matrix_at

  pub own-x : IsOwnPiece R F job files me given c.apply.x (of.Vector x)
  own-x = c.at.pieces_are.each c.apply.x (of.Vector x) c.vector_at

  pub is-m : IsMatrixOf job files me c.apply.a m
  is-m = own-m.of

  pub first-a : first_pieces R F job files me (arrivals R F job files me given) k c.apply.a ≡ crs_table m.matrix
  first-a = first-piece R F job files me given k c.apply.a c.apply.before_a c.apply.below ∙ sym own-m.table

  pub first-x : first_pieces R F job files me (arrivals R F job files me given) k c.apply.x ≡ global_table x
  first-x = first-piece R F job files me given k c.apply.x c.apply.before_x c.apply.below ∙ sym own-x.table

  abbrev pub shared : Bool → Plan
  shared rows = by-rows job files me pieces is-m c.matrix_at rows

  pub owner-is : (rows : Bool) → owner_map job (shared rows) ≡ cond rows (shape job c.apply.a).rows (shape job c.apply.a).domain
  owner-is false = refl
  owner-is true = refl

  pub x-columns : x.columns ≡ (shape job k).columns
  x-columns = own-x.of.columns ∙ sym c.apply.columns

  -- x is on the map whose owners send it
  x-owners : x.map ≡ list_of job (owner_map job (shared transposed)) me
  x-owners =
      own-x.of.map
      ∙ ap (λ n. list_of job n me)
      (c.apply.rows_x ∙ ap (λ b. cond b (shape job c.apply.a).rows (shape job c.apply.a).domain) (sym c.transposed_is) ∙ sym (owner-is transposed))

  -- ---- what is begun

  module _ (sent onto : VectorState S) (lists : PlanLists) (serves : IsServing job files (transfer_at job k stage) me sent.map onto.map lists) (few : HasFewRows lists)
      (sent_columns : sent.columns ≡ (shape job k).columns) (columns : onto.columns ≡ (shape job k).columns) where
    pub may : MayArrive sent onto lists
    may =
        let on_map = c.at.phased.shapes k c.apply.below in
        record {
          columns = sent_columns ∙ sym columns;
          some_column = subst (λ n. 1 ≤ n) (sym columns) (on_map.some_column c.apply.dense);
          few_columns = subst (λ n. n ≤ 16) (sym columns) (on_map.few_columns c.apply.dense);
          few_rows = few;
          own = serves.own;
          targets = record { below = serves.targets.below; once = serves.targets.once };
        }

    pub begun : sent.map ≡ sent_list job files me pieces (transfer_at job k stage) → onto.map ≡ gathering_list job files me pieces (transfer_at job k stage)
        → AgreeOn job files (transfer_at job k stage) me (global_table sent) (rank_entries R F job files me (arrivals R F job files me given) k stage)
        → (mode : Mode) → (target_at R F job files me k stage (first_pieces R F job files me (arrivals R F job files me given) k)).mode ≡ mode
        → (target_at R F job files me k stage (first_pieces R F job files me (arrivals R F job files me given) k)).old ≡ global_table onto
        → (g : CellsComing S) → IsCellSource pieces g.source sent → g.arriving.plan ≡ lists → g.arriving.mode ≡ mode → HasSameShape onto g.arriving.vector
        → global_table g.arriving.vector ≡ after_table R mode (global_table onto) (own_rows lists sent)
        → AreCellsComing R F job files me pieces given k stage (first_gathered R F job files me pieces given k stage) g
    begun from to agree mode mode_is old_is g source kept by shaped rows = record {
      dense = c.apply.dense;
      sent = sent;
      sent_is = source;
      between = record {
        valid = c.at.input.valid;
        fitting = c.at.input.fitting;
        within = c.at.input.rank;
        below = c.apply.below;
        known = c.known;
        source_is = from;
        target_is = shaped.0 ∙ to;
        serves =
            subst (IsServing job files (transfer_at job k stage) me sent.map g.arriving.vector.map) (sym kept)
            (subst (λ l. IsServing job files (transfer_at job k stage) me sent.map l lists) (sym shaped.0) serves);
      };
      sent_columns = sent_columns;
      columns = shaped.1 ∙ columns;
      entries = agree;
      mode = by ∙ sym mode_is;
      table =
          sym (cells-are-begun R F job files k stage me (arrivals R F job files me given) lists sent onto g.arriving.vector c.apply.dense serves agree (sym old_is)
          (rows ∙ (λ i. after_table R (sym mode_is i) (global_table onto) (own_rows lists sent))));
    }

  -- onto what: noughts, on a list of the transfer's target
  module _ (list : List ℕ) (listed : (g : ℕ) → stands g list ≡ cond (is_from_owners (transfer_at job k stage).way) (stands g (rank_list_by job files (transfer_at job k stage).plan me))
      (has_index job (owner_map job (transfer_at job k stage).plan) me g)) where
    pub onto-mode : (target_at R F job files me k stage (first_pieces R F job files me (arrivals R F job files me given) k)).mode ≡ cond (is_from_owners (transfer_at job k stage).way) Replace Add
    onto-mode = (applies-are-onto-noughts R F job files k me stage (arrivals R F job files me given) good list c.known listed).0

    pub onto-old : (onto : VectorState S) (columns : ℕ) → columns ≡ (shape job k).columns → global_table onto ≡ lines_on R F list columns []
        → (target_at R F job files me k stage (first_pieces R F job files me (arrivals R F job files me given) k)).old ≡ global_table onto
    onto-old onto columns columns_are table =
        (applies-are-onto-noughts R F job files k me stage (arrivals R F job files me given) good list c.known listed).1
        ∙ (λ i. lines_on R F list (sym columns_are i) [])
        ∙ sym table

-- ---- copies

module _ {S : Type 0} {R : Semiring S} {F : Conversions S} {job : Job} {files : List File} {me : ℕ} {pieces : List (Piece S)} {given : List Letter} {k stage value : ℕ}
    {m : RankMatrix S} {x : VectorState S} {transposed : Bool} (h : AreCopiesOf R F job files me pieces given k stage value m x transposed) where
  abbrev a : ℕ
  a = h.applying.apply.a

  first-from : (split : Bool) → HasRows job files me split a m → (t : Bool) → starts_with_copies m.rows t ≡ true → first_transfer a split t ≡ from_owners (shared h.applying t)
  first-from false rows false e = refl
  first-from false rows true e = absurd (let none = rows.1 in let two = ap (λ r. starts_with_copies r true) none in let bad : ⊥ = cc in bad)
  first-from true rows false e = refl
  first-from true rows true e = refl

  transfer-is : transfer_at job k stage ≡ from_owners (shared h.applying transposed)
  transfer-is =
      ap (transfer_at job k) h.first
      ∙ (applies-have-transfers job k h.applying.apply).0
      ∙ ap (first_transfer a (is_split_sort (shape job a).sort)) (sym h.applying.transposed_is)
      ∙ first-from (is_split_sort (shape job a).sort) (is-m h.applying).rows transposed h.copies

  -- where the plan is one of rows, the matrix has it
  pub copies-have-rows : transposed ≡ true → (plan : PlanLists) × (m.rows ≡ Some plan)
  copies-have-rows e = by (is_split_sort (shape job a).sort) (is-m h.applying).rows
    where
      by : (split : Bool) → HasRows job files me split a m → (plan : PlanLists) × (m.rows ≡ Some plan)
      by true rows = (rows.0, rows.1)
      by false rows = absurd (let two : starts_with_copies m.rows transposed ≡ false = (λ i. starts_with_copies (rows.1 i) (e i)) in let one = h.copies in let bad : ⊥ = cc in bad)

  module _ (plan lists : PlanLists) (columns : transposed ≡ false → plan ≡ m.columns) (rows : transposed ≡ true → m.rows ≡ Some plan) (lists_are : lists ≡ plan)
      (onto : VectorState S) (list : List ℕ) (list_is : list ≡ source_list transposed m.matrix.graph) (on : onto.map ≡ list) (width : ℕ) (width_is : width ≡ x.columns)
      (onto_columns : onto.columns ≡ width) where
    is-along : IsAlong job files me pieces a (shared h.applying transposed) (source_list transposed m.matrix.graph) plan
    is-along = along job files me pieces (is-m h.applying) h.applying.matrix_at transposed plan columns rows

    onto-list : onto.map ≡ source_list transposed m.matrix.graph
    onto-list = on ∙ list_is

    wide : width ≡ (shape job k).columns
    wide = width_is ∙ x-columns h.applying

    serves : IsServing job files (transfer_at job k stage) me x.map onto.map lists
    serves =
        subst (λ l. IsServing job files (transfer_at job k stage) me l onto.map lists) (sym (x-owners h.applying))
        (subst (λ l. IsServing job files (transfer_at job k stage) me (list_of job (owner_map job (shared h.applying transposed)) me) l lists) (sym onto-list)
        (subst (IsServing job files (transfer_at job k stage) me (list_of job (owner_map job (shared h.applying transposed)) me) (source_list transposed m.matrix.graph)) (sym lists_are)
        (subst (λ t. IsServing job files t me (list_of job (owner_map job (shared h.applying transposed)) me) (source_list transposed m.matrix.graph) plan) (sym transfer-is)
        (from-serves job files me pieces h.applying.at.input.valid is-along))))

    few : HasFewRows lists
    few = subst HasFewRows (sym lists_are) (from-few job files me pieces h.applying.at.input.valid is-along)

    pub copies-may-arrive : MayArrive x onto lists
    copies-may-arrive = may h.applying x onto lists serves few (x-columns h.applying) (onto_columns ∙ wide)

    listed : (g : ℕ) → stands g (source_list transposed m.matrix.graph)
        ≡ cond (is_from_owners (transfer_at job k stage).way) (stands g (rank_list_by job files (transfer_at job k stage).plan me)) (has_index job (owner_map job (transfer_at job k stage).plan) me g)
    listed g =
        is-along.has.listed.listed g
        ∙ ap (λ t. cond (is_from_owners t.way) (stands g (rank_list_by job files t.plan me)) (has_index job (owner_map job t.plan) me g)) (sym transfer-is)

    entries : global_table x ≡ rank_entries R F job files me (arrivals R F job files me given) k stage
    entries =
        sym (first-x h.applying)
        ∙ sym (copies-of-x R F job files k me (arrivals R F job files me given) (good h.applying) (ap (λ t. (transfer_at job k t).way) (sym h.first) ∙ ap (λ t. t.way) transfer-is))
        ∙ ap (rank_entries R F job files me (arrivals R F job files me given) k) (sym h.first)

    pub copies-begun : global_table onto ≡ lines_on R F list width [] → (g : CellsComing S) → g.source ≡ cell.Piece value → g.arriving.plan ≡ lists → g.arriving.mode ≡ Replace
        → HasSameShape onto g.arriving.vector → global_table g.arriving.vector ≡ after_table R Replace (global_table onto) (own_rows lists x)
        → AreCellsComing R F job files me pieces given k stage (first_gathered R F job files me pieces given k stage) g
    copies-begun table g source kept by shaped rows_are =
        begun h.applying x onto lists serves few (x-columns h.applying) (onto_columns ∙ wide)
        (x-owners h.applying ∙ ap (sent_list job files me pieces) (sym transfer-is))
        (onto-list ∙ sym is-along.list_is ∙ ap (gathering_list job files me pieces) (sym transfer-is))
        ((λ i j e. ap (λ t. t i j) entries), (λ q i j l e. ap (λ t. t i j) entries))
        Replace (onto-mode h.applying (source_list transposed m.matrix.graph) listed ∙ ap (λ t. cond (is_from_owners t.way) Replace Add) transfer-is)
        (onto-old h.applying (source_list transposed m.matrix.graph) listed onto width wide (table ∙ ap (λ l. lines_on R F l width []) list_is))
        g (subst (λ s. IsCellSource pieces s x) (sym source) (ap (slice_get pieces) h.applying.value_is ∙ h.applying.vector_at)) kept by shaped rows_are
