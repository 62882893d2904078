-- Sums of an apply, as a stage of it is begun.
use Rattle.std.proofs.Common.{◌≡◌, ℕ, zero, suc, ◌<◌, Bool, true, false, cond, not, List, [], length, Some, refl, sym, ap, ◌∙◌, subst, arith}
use Rattle.scalar_laws.specs.Semiring.{Semiring}
use Rattle.scalar_laws.specs.Conversions.{Conversions}
use Rattle.tables.specs.Indices.{AreBelow, stands}
use Rattle.map_core.specs.Plans.{PlanLists, reversed}
use Rattle.combine_modes.specs.declared.mode.Mode.TheVariants.{Add, Replace}
use Rattle.crs_graph.specs.Graphs.{Graph}
use Rattle.crs_matrix.specs.Matrices.{crs_table}
use Rattle.mm_text.specs.Reading.{File}
use Rattle.multivector.specs.Vectors.{HasSameShape, VectorState}
use Rattle.peers.specs.Protocols.{Letter}
use Rattle.model_defs.specs.declared.job.Job.{Job}
use Rattle.model_defs.specs.declared.phase.Way.TheVariants.{ToOwners}
use Rattle.model_defs.specs.Machine.{arrivals}
use Rattle.model_defs.specs.Maps.{has_index, list_of, size_of}
use Rattle.model_defs.specs.Operations.{turned}
use Rattle.model_defs.specs.Plans.{rank_list_by}
use Rattle.model_defs.specs.Shapes.{is_split_sort, shape}
use Rattle.model_defs.specs.Stages.{rank_entries, transfer_at}
use Rattle.model_defs.specs.Transfers.{owner_map, to_owners}
use Rattle.model_defs.proofs.Bounds.{maps-are-layouts}
use Rattle.model_defs.proofs.Placed.{entries_are_placed}
use Rattle.rank_matrices.specs.Matrices.{product_on, source_list, target_list}
use Rattle.rank_transfers.specs.Arrivals.{HasFewRows, after_table, own_rows}
use Rattle.rank_values.specs.Vectors.{global_table, lines_on}
use Rattle.matrix_arrivals.specs.RowPlans.{IsServing}
use Rattle.dense_arrivals.specs.Applies.{first_transfer, is_from_owners, second_transfer}
use Rattle.dense_arrivals.specs.DenseBegun.{AgreeOn}
use Rattle.dense_arrivals.proofs.Made.{applies-have-transfers, sums-of-own}
use Rattle.rank_pieces.specs.declared.pieces.Piece.{Piece}
use Rattle.rank_pieces.specs.declared.pieces.RankMatrix.{RankMatrix}
use Rattle.rank_pieces.specs.Pieces.{HasRows}
use Rattle.rank_makings.specs.declared.coming.CellsComing.{CellsComing}
use Rattle.rank_makings.specs.declared.coming.CellSource.TheVariants as cell
use Rattle.rank_makings.specs.Applying.{AreSumsOf}
use Rattle.rank_makings.specs.Comings.{AreCellsComing, IsCellSource, first_gathered}
use Rattle.rank_makings.specs.Lists.{source_list as sent_list, target_list as gathering_list}
use Rattle.rank_makings.proofs.ApplyPlans.{IsAlong, along, all-in, below, to-few, to-serves}
use Rattle.rank_makings.proofs.ApplyCells.{MayArrive, begun, first-a, good, is-m, may, onto-mode, onto-old, shared}

turned-list : (t : Bool) (g : Graph) → source_list (not t) g ≡ target_list t g
turned-list false g = refl
turned-list true g = refl

module _ {S : Type 0} {R : Semiring S} {F : Conversions S} {job : Job} {files : List File} {me : ℕ} {pieces : List (Piece S)} {given : List Letter} {k stage rows : ℕ}
    {m : RankMatrix S} {near : VectorState S} {transposed : Bool} (h : AreSumsOf R F job files me pieces given k stage rows m near transposed) where
  abbrev from : ℕ
  from = h.applying.apply.a

  abbrev is-split : Bool
  is-split = is_split_sort (shape job from).sort

  -- of a matrix that is whole and transposed the first stage is to owners, of one that is split the second
  at-stage : (split t : Bool) → (n : ℕ) → transfer_at job k 0 ≡ first_transfer from split t → (split ≡ true → transfer_at job k 1 ≡ second_transfer from t) → n < cond split 2 1
      → (transfer_at job k n).way ≡ ToOwners → transfer_at job k n ≡ to_owners (shared h.applying (not t))
  at-stage false false zero first second l w = absurd (let two = ap (λ t. t.way) first in let bad : ⊥ = cc in bad)
  at-stage false true zero first second l w = first
  at-stage false t (suc n) first second l w = absurd (omega arith)
  at-stage true false zero first second l w = absurd (let two = ap (λ t. t.way) first in let bad : ⊥ = cc in bad)
  at-stage true true zero first second l w = absurd (let two = ap (λ t. t.way) first in let bad : ⊥ = cc in bad)
  at-stage true false (suc zero) first second l w = second refl
  at-stage true true (suc zero) first second l w = second refl
  at-stage true t (suc (suc n)) first second l w = absurd (omega arith)

  transfer-is : transfer_at job k stage ≡ to_owners (shared h.applying (not transposed))
  transfer-is =
      let all = applies-have-transfers job k h.applying.apply in
      at-stage is-split transposed stage
      (all.0 ∙ ap (first_transfer from is-split) (sym h.applying.transposed_is))
      (λ s. all.2 s ∙ ap (second_transfer from) (sym h.applying.transposed_is))
      (subst (λ n. stage < n) all.1 h.applying.known) h.to_owners

  -- of a matrix that is whole the sums are those of its transpose
  whole-turned : (split t : Bool) → (n : ℕ) → split ≡ false → transfer_at job k 0 ≡ first_transfer from split t → n < cond split 2 1 → (transfer_at job k n).way ≡ ToOwners → t ≡ true
  whole-turned true t n s first l w = absurd (let bad : ⊥ = cc in bad)
  whole-turned false true n s first l w = refl
  whole-turned false false zero s first l w = absurd (let two = ap (λ t. t.way) first in let bad : ⊥ = cc in bad)
  whole-turned false false (suc n) s first l w = absurd (omega arith)

  -- where the plan is one of rows, the matrix has it
  pub sums-have-rows : not transposed ≡ true → (plan : PlanLists) × (m.rows ≡ Some plan)
  sums-have-rows e = by is-split (is-m h.applying).rows refl
    where
      by : (split : Bool) → HasRows job files me split from m → is-split ≡ split → (plan : PlanLists) × (m.rows ≡ Some plan)
      by true has s = (has.0, has.1)
      by false has s =
          let all = applies-have-transfers job k h.applying.apply in
          let t = whole-turned is-split transposed stage s
          (all.0 ∙ ap (first_transfer from is-split) (sym h.applying.transposed_is)) (subst (λ n. stage < n) all.1 h.applying.known) h.to_owners in
          absurd (let f = ap not t in let bad : ⊥ = cc in bad)

  -- the owners of the result
  result-owner : (t : Bool) → transposed ≡ t → (shape job k).rows ≡ owner_map job (shared h.applying (not t))
  result-owner true e = h.applying.apply.rows ∙ ap (λ b. cond b (shape job from).domain (shape job from).rows) (sym h.applying.transposed_is ∙ e)
  result-owner false e = h.applying.apply.rows ∙ ap (λ b. cond b (shape job from).domain (shape job from).rows) (sym h.applying.transposed_is ∙ e)

  pub rows-known : rows < length job.maps
  rows-known = subst (λ n. n < length job.maps) (sym h.rows_are) (h.applying.at.phased.shapes k h.applying.apply.below).known

  -- the indices of what is near are those of the map of x
  near-below : AreBelow (size_of job (shape job h.applying.apply.x).rows) near.map
  near-below =
      subst (λ l. AreBelow (size_of job (shape job h.applying.apply.x).rows) l) (sym h.map)
      (subst (λ n. AreBelow (size_of job n) (source_list transposed m.matrix.graph))
      (sym (h.applying.apply.rows_x ∙ ap (λ b. cond b (shape job from).rows (shape job from).domain) (sym h.applying.transposed_is)))
      (by transposed))
    where
      split-below : (split : Bool) → HasRows job files me split from m → AreBelow (size_of job (shape job from).rows) m.matrix.graph.rows
      split-below false has =
          subst (AreBelow (size_of job (shape job from).rows)) (sym has.0)
          (all-in (size_of job (shape job from).rows) (list_of job (shape job from).rows me) ((maps-are-layouts job (shape job from).rows h.applying.at.input.valid).0.below me))
      split-below true has =
          below job files me pieces h.applying.at.input.valid
          (along job files me pieces (is-m h.applying) h.applying.matrix_at true has.0 (λ e. absurd (let bad : ⊥ = cc in bad)) (λ e. has.1))

      by : (t : Bool) → AreBelow (size_of job (cond t (shape job from).rows (shape job from).domain)) (source_list t m.matrix.graph)
      by true = split-below is-split (is-m h.applying).rows
      by false =
          below job files me pieces h.applying.at.input.valid
          (along job files me pieces (is-m h.applying) h.applying.matrix_at false m.columns (λ e. refl) (λ e. absurd (let bad : ⊥ = cc in bad)))

  module _ (plan lists : PlanLists) (columns : not transposed ≡ false → plan ≡ m.columns) (split : not transposed ≡ true → m.rows ≡ Some plan) (lists_are : lists ≡ reversed plan)
      (sums onto : VectorState S) (sums_map : sums.map ≡ target_list transposed m.matrix.graph) (sums_columns : sums.columns ≡ near.columns)
      (list : List ℕ) (list_is : list ≡ list_of job rows me) (on : onto.map ≡ list) (width : ℕ) (width_is : width ≡ near.columns) (onto_columns : onto.columns ≡ width) where
    is-along : IsAlong job files me pieces from (shared h.applying (not transposed)) (source_list (not transposed) m.matrix.graph) plan
    is-along = along job files me pieces (is-m h.applying) h.applying.matrix_at (not transposed) plan columns split

    sums-list : sums.map ≡ source_list (not transposed) m.matrix.graph
    sums-list = sums_map ∙ sym (turned-list transposed m.matrix.graph)

    owners-are : list ≡ list_of job (owner_map job (shared h.applying (not transposed))) me
    owners-are = list_is ∙ ap (λ n. list_of job n me) (h.rows_are ∙ result-owner transposed refl)

    wide : width ≡ (shape job k).columns
    wide = width_is ∙ h.columns

    serves : IsServing job files (transfer_at job k stage) me sums.map onto.map lists
    serves =
        subst (λ l. IsServing job files (transfer_at job k stage) me l onto.map lists) (sym sums-list)
        (subst (λ l. IsServing job files (transfer_at job k stage) me (source_list (not transposed) m.matrix.graph) l lists) (sym (on ∙ owners-are))
        (subst (IsServing job files (transfer_at job k stage) me (source_list (not transposed) m.matrix.graph) (list_of job (owner_map job (shared h.applying (not transposed))) me)) (sym lists_are)
        (subst (λ t. IsServing job files t me (source_list (not transposed) m.matrix.graph) (list_of job (owner_map job (shared h.applying (not transposed))) me) (reversed plan)) (sym transfer-is)
        (to-serves job files me pieces h.applying.at.input.valid is-along))))

    few : HasFewRows lists
    few = subst HasFewRows (sym lists_are) (to-few job files me pieces h.applying.at.input.valid is-along)

    pub sums-may-arrive : MayArrive sums onto lists
    sums-may-arrive = may h.applying sums onto lists serves few (sums_columns ∙ h.columns) (onto_columns ∙ wide)

    listed : (g : ℕ) → stands g list
        ≡ cond (is_from_owners (transfer_at job k stage).way) (stands g (rank_list_by job files (transfer_at job k stage).plan me)) (has_index job (owner_map job (transfer_at job k stage).plan) me g)
    listed g =
        ap (stands g) owners-are
        ∙ ap (λ t. cond (is_from_owners t.way) (stands g (rank_list_by job files t.plan me)) (has_index job (owner_map job t.plan) me g)) (sym transfer-is)

    in-sums : (g : ℕ) → stands g (target_list transposed m.matrix.graph) ≡ stands g (rank_list_by job files (transfer_at job k stage).plan me)
    in-sums g =
        ap (stands g) (sym (turned-list transposed m.matrix.graph))
        ∙ is-along.has.listed.listed g
        ∙ ap (λ t. stands g (rank_list_by job files t.plan me)) (sym transfer-is)

    module _ (table : (n : ℕ) → AreBelow n near.map
        → global_table sums ≡ product_on R (target_list transposed m.matrix.graph) near.columns n (turned transposed (crs_table m.matrix)) (global_table near)) where
      agree : AgreeOn job files (transfer_at job k stage) me (global_table sums) (rank_entries R F job files me (arrivals R F job files me given) k stage)
      agree =
          let sums_are =
          table (size_of job (shape job h.applying.apply.x).rows) near-below
          ∙ (λ i. product_on R (target_list transposed m.matrix.graph) (h.columns i) (size_of job (shape job h.applying.apply.x).rows) (turned (h.applying.transposed_is i) (sym (first-a h.applying) i)) (global_table near)) in
          subst (λ t. AgreeOn job files (transfer_at job k stage) me t (rank_entries R F job files me (arrivals R F job files me given) k stage)) (sym sums_are)
          (sums-of-own R F job files k me stage (arrivals R F job files me given) (good h.applying) (target_list transposed m.matrix.graph) (global_table near) h.applying.known h.to_owners
          (entries_are_placed R F job files given me k stage h.applying.phase h.applying.at.input.valid h.applying.at.input.fitting h.applying.sends h.applying.heard)
          in-sums h.table)

      pub sums-begun : global_table onto ≡ lines_on R F list width [] → (g : CellsComing S) → g.source ≡ cell.Sums sums → g.arriving.plan ≡ lists → g.arriving.mode ≡ Add
          → HasSameShape onto g.arriving.vector → global_table g.arriving.vector ≡ after_table R Add (global_table onto) (own_rows lists sums)
          → AreCellsComing R F job files me pieces given k stage (first_gathered R F job files me pieces given k stage) g
      sums-begun noughts g source kept by shaped rows_are =
          begun h.applying sums onto lists serves few (sums_columns ∙ h.columns) (onto_columns ∙ wide)
          (sums-list ∙ sym is-along.list_is ∙ ap (sent_list job files me pieces) (sym transfer-is))
          (on ∙ owners-are ∙ ap (gathering_list job files me pieces) (sym transfer-is))
          agree Add (onto-mode h.applying list listed ∙ ap (λ t. cond (is_from_owners t.way) Replace Add) transfer-is)
          (onto-old h.applying list listed onto width wide noughts)
          g (subst (λ s. IsCellSource pieces s sums) (sym source) refl) kept by shaped rows_are
