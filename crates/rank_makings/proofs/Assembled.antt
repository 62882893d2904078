-- A matrix that is assembled of the entries that were dealt to the ranks, as it is begun.
use Rattle.std.proofs.Common.{◌≡◌, ℕ, zero, suc, ◌<◌, ◌≤◌, List, [], ◌∷◌, length, get_or, map, Option, None, refl, sym, ap, ◌∙◌, subst, arith}
use Rattle.std.specs.Prelude.{slice_get}
use Rattle.scalar_laws.specs.Semiring.{Semiring}
use Rattle.scalar_laws.specs.Conversions.{Conversions}
use Rattle.map_core.specs.Plans.{PlanLists, reversed}
use Rattle.combine_modes.specs.declared.mode.Mode.TheVariants.{Add}
use Rattle.crs_matrix.specs.Rows.{RowCells, row_table}
use Rattle.matrix_moves.specs.Arrivals.{HasTargets, after_table}
use Rattle.matrix_moves.specs.Sources.{own_rows}
use Rattle.matrix_moves.proofs.Empty.{new-matrices-are-empty}
use Rattle.mm_text.specs.Reading.{File}
use Rattle.multivector.specs.Vectors.{VectorState}
use Rattle.peers.specs.Protocols.{Letter}
use Rattle.model_defs.specs.declared.job.Job.{Job}
use Rattle.model_defs.specs.declared.phase.Plan.{Plan}
use Rattle.model_defs.specs.declared.phase.Plan.TheVariants.{ImportPlan, RowPlan}
use Rattle.model_defs.specs.declared.shape.Shape.{Shape}
use Rattle.model_defs.specs.Given.{dealt_part}
use Rattle.model_defs.specs.Machine.{arrivals}
use Rattle.model_defs.specs.Maps.{list_of}
use Rattle.model_defs.specs.Plans.{rank_rows}
use Rattle.model_defs.specs.Shapes.{shape}
use Rattle.model_defs.specs.Stages.{entries_by, first_pieces, gathered_after, rank_entries, transfer_at}
use Rattle.model_defs.specs.Transfers.{from_owners, owner_map, to_owners}
use Rattle.model_defs.specs.Valid.{IsValid}
use Rattle.vector_moves.specs.Moves.{AreMoves, own_sources, own_targets}
use Rattle.matrix_arrivals.specs.RowPlans.{AreListed, IsFromOwners, IsServing}
use Rattle.matrix_arrivals.specs.RowsBegun.{is_plain}
use Rattle.matrix_arrivals.proofs.Served.{job-lists-are-listed, to-owners-serve}
use Rattle.plan_phases.specs.BookCalls.{IsPlanList, IsSharedBook}
use Rattle.plan_phases.proofs.StructureLists.{rows_are_lists}
use Rattle.rank_plans.specs.Books.{Book}
use Rattle.rank_share.specs.declared.share.Share.{Share}
use Rattle.value_phases.specs.ValueKinds.{IsAssembled}
use Rattle.rank_pieces.specs.declared.pieces.Piece.{Piece}
use Rattle.rank_makings.specs.declared.coming.RowsComing.{RowsComing}
use Rattle.rank_makings.specs.declared.coming.RowSource.TheVariants as row
use Rattle.rank_makings.specs.Beginnings.{CanBegin}
use Rattle.rank_makings.specs.Comings.{AreRowsComing, IsBetween, IsSentRows, first_gathered}
use Rattle.rank_makings.specs.Lists.{rows_in, source_list, target_list}
use Rattle.rank_makings.proofs.BegunRows.{rows-begun}
use Rattle.rank_makings.proofs.CopyAnswers.{shape-at}

-- a list of a plan of a structure, beside the rank's own indices of the map of owners
pub listed : (job : Job) (files : List File) (plan : Plan) (p : ℕ) (list : List ℕ) → IsValid job → IsPlanList job files plan p list → AreListed job files plan p (list_of job (owner_map job plan) p) list
listed job files plan p list valid is =
    let own = job-lists-are-listed job files plan p valid in
    record { owned = own.owned; listed = is.listed; distinct_owners = own.distinct_owners; distinct_list = is.distinct }

none-behind : {A : Type 0} (xs : List A) (n : ℕ) → length xs ≤ n → slice_get xs n ≡ None
none-behind [] n l = refl
none-behind (x ∷ xs) zero l = absurd (omega arith)
none-behind (x ∷ xs) (suc n) l = none-behind xs n (omega arith)

module _ {S : Type 0} {R : Semiring S} {F : Conversions S} {job : Job} {files : List File} {me : ℕ} {share : Share} {shapes : List Shape} {pieces : List (Piece S)} {given : List Letter} {book : Book}
    {k stage : ℕ} {came : Option (VectorState S)} (can : CanBegin R F job files me share shapes pieces given book k stage came) (is : IsAssembled job k) where
  valid : IsValid job
  valid = can.at.input.valid

  pub rows-known : (d : Shape) → (get_or shapes k d).rows < length job.maps
  rows-known d = subst (λ s. s.rows < length job.maps) (sym (shape-at can.at k d can.at.below)) is.structured.known_rows

  pub rows-listed : (list : List ℕ) → list ≡ rank_rows job files k me → IsPlanList job files (RowPlan k) book.me list
  rows-listed list e =
      subst (λ l. IsPlanList job files (RowPlan k) book.me l) (sym e)
      (subst (λ p. IsPlanList job files (RowPlan k) p (rank_rows job files k me)) (sym can.me_is) (rows_are_lists job files k me valid is.structured))

  transfer-is : transfer_at job k stage ≡ to_owners (RowPlan k)
  transfer-is =
      let known = can.known in
      let one = ap (λ ts. length ts) is.transfers_are in
      let first : stage ≡ 0 = omega (arith, known, one) in
      (λ i. get_or (is.transfers_are i) (first i) (from_owners (ImportPlan 0 0)))

  no-piece : slice_get pieces k ≡ None
  no-piece = none-behind pieces k (let many = can.at.pieces_are.many in omega (arith, many))

  module _ {list : List ℕ} (list_is : list ≡ rank_rows job files k me) {plan : PlanLists}
      (made : (files : List File) → IsSharedBook R F job files book (RowPlan k) → IsPlanList job files (RowPlan k) book.me list
      → IsFromOwners job files (RowPlan k) book.me (list_of job (owner_map job (RowPlan k)) book.me) list plan)
      (d : Shape) {own : List ℕ} (own_is : own ≡ list_of job (get_or shapes k d).rows me) where
    owners-are : own ≡ list_of job (shape job k).rows me
    owners-are = own_is ∙ ap (λ s. list_of job s.rows me) (shape-at can.at k d can.at.below)

    from-owners : IsFromOwners job files (RowPlan k) me (list_of job (shape job k).rows me) list plan
    from-owners = subst (λ p. IsFromOwners job files (RowPlan k) p (list_of job (shape job k).rows p) list plan) can.me_is (made files (can.shared is) (rows-listed list list_is))

    are-listed : AreListed job files (RowPlan k) me (list_of job (shape job k).rows me) list
    are-listed = listed job files (RowPlan k) me list valid (subst (λ p. IsPlanList job files (RowPlan k) p list) can.me_is (rows-listed list list_is))

    serves : IsServing job files (to_owners (RowPlan k)) me list (list_of job (shape job k).rows me) (reversed plan)
    serves = to-owners-serve job files (RowPlan k) me (list_of job (shape job k).rows me) list plan valid are-listed from-owners

    goes : (from to : List ℕ) (lists : PlanLists) → from ≡ list → to ≡ own → lists ≡ reversed plan → IsBetween R F job files me pieces given k stage from to lists
    goes from to lists from_is to_is lists_are =
        let to_own : to ≡ list_of job (shape job k).rows me = to_is ∙ owners-are in
        record {
          valid = valid;
          fitting = can.at.input.fitting;
          within = can.at.input.rank;
          below = can.at.below;
          known = can.known;
          source_is = from_is ∙ list_is ∙ ap (rows_in (rank_rows job files k me)) (sym no-piece) ∙ ap (source_list job files me pieces) (sym transfer-is);
          target_is = to_own ∙ ap (target_list job files me pieces) (sym transfer-is);
          serves =
              subst (λ l. IsServing job files (transfer_at job k stage) me l to lists) (sym from_is)
              (subst (λ l. IsServing job files (transfer_at job k stage) me list l lists) (sym to_own)
              (subst (λ p. IsServing job files (transfer_at job k stage) me list (list_of job (shape job k).rows me) p) (sym lists_are)
              (subst (λ t. IsServing job files t me list (list_of job (shape job k).rows me) (reversed plan)) (sym transfer-is) serves)));
        }

    module _ {a dealt : RowCells S} (same : a ≡ dealt) (rows_are : dealt.rows ≡ list) {lists : PlanLists} (lists_are : lists ≡ reversed plan) {empty : RowCells S}
        (empty_is : empty ≡ record { rows = own; cells = map (λ _. []) own }) where
      between : IsBetween R F job files me pieces given k stage a.rows empty.rows lists
      between = goes a.rows empty.rows lists (ap (λ r. r.rows) same ∙ rows_are) (ap (λ r. r.rows) empty_is) lists_are

      pub dealt-rows-move : AreMoves a.rows empty.rows (own_sources lists) (own_targets lists)
      dealt-rows-move = between.serves.own

      pub own-rows-are-targets : HasTargets lists empty.rows
      own-rows-are-targets = between.serves.targets

      entries-are : row_table dealt ≡ dealt_part R F job files k me → row_table a ≡ rank_entries R F job files me (arrivals R F job files me given) k stage
      entries-are dealt_is =
          ap row_table same
          ∙ dealt_is
          ∙ ap (entries_by R F job files me k (transfer_at job k stage).way stage (first_pieces R F job files me (arrivals R F job files me given) k)
          (gathered_after R F job files me (arrivals R F job files me given) k (first_pieces R F job files me (arrivals R F job files me given) k) stage)) (sym is.is)

      pub assembled-begun : row_table dealt ≡ dealt_part R F job files k me → (g : RowsComing S) → g.source ≡ row.Own dealt
          → g.arriving.plan ≡ lists → g.arriving.mode ≡ Add → g.arriving.fill.rows ≡ empty.rows
          → row_table g.arriving.fill ≡ after_table R Add (row_table empty) (own_rows lists a)
          → AreRowsComing R F job files me pieces given k stage (first_gathered R F job files me pieces given k stage) g
      assembled-begun dealt_is g from kept by on table =
          rows-begun R F job files me pieces given k stage can.phase can.sends can.heard is.structured.sparse (ap is_plain is.is) a empty lists g
          (subst (λ r. IsSentRows pieces r a) (sym from) (sym same))
          between (entries-are dealt_is) (ap row_table empty_is ∙ new-matrices-are-empty own) kept by on table
