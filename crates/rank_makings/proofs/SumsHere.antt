-- The sum of two matrices on one map: the rows of b that a rank needs are its own.
use Rattle.std.proofs.Common.{◌≡◌, ℕ, Bool, true, cond, ◌&&◌, eqb, List, [], ◌∷◌, length, get_or, Some, refl, inr, inl, sym, ap, ◌∙◌, subst, arith}
use Rattle.std.specs.Prelude.{slice_get}
use Rattle.std.specs.List.{slice_index_or}
use Rattle.std.proofs.lemmas.Bool.{eq-eqb}
use Rattle.scalar_laws.specs.Semiring.{Semiring, IsSemiring}
use Rattle.scalar_laws.specs.Conversions.{Conversions}
use Rattle.tables.specs.Indices.{stands}
use Rattle.tables.specs.Tables.{Table, nowhere}
use Rattle.combine_modes.specs.Modes.{after_one, gathered}
use Rattle.crs_matrix.specs.Matrices.{crs_table}
use Rattle.crs_matrix.specs.Rows.{RowCells, row_table}
use Rattle.mm_text.specs.Reading.{File}
use Rattle.peers.specs.Protocols.{Letter}
use Rattle.model_defs.specs.declared.job.Job.{Job}
use Rattle.model_defs.specs.declared.phase.Plan.TheVariants.{ImportPlan}
use Rattle.model_defs.specs.declared.shape.Shape.{Shape}
use Rattle.model_defs.specs.Machine.{arrivals, tables_of_phase}
use Rattle.model_defs.specs.Makers.{maker_of}
use Rattle.model_defs.specs.Maps.{list_of}
use Rattle.model_defs.specs.Plans.{brought, passes}
use Rattle.model_defs.specs.Shapes.{is_split_sort, shape}
use Rattle.model_defs.specs.Stages.{entries, entries_by, first_pieces, is_fixed, stage_count, target_at, transfer_at}
use Rattle.model_defs.specs.Transfers.{from_owners, is_local, transfers}
use Rattle.rank_share.specs.declared.share.Share.{Share}
use Rattle.rank_stages.specs.JobStages.{gathered_so_far}
use Rattle.rank_transfers.proofs.Local.{nothing-comes-by-locals}
use Rattle.matrix_arrivals.specs.RowsBegun.{is_plain}
use Rattle.matrix_arrivals.proofs.Begun.{plain-rows-are-added}
use Rattle.value_phases.specs.ValueKinds.{IsSum, IsSumHere}
use Rattle.rank_pieces.specs.declared.pieces.Piece.{Piece}
use Rattle.rank_pieces.specs.declared.pieces.Piece.TheVariants as of
use Rattle.rank_pieces.specs.declared.pieces.RankMatrix.{RankMatrix}
use Rattle.rank_pieces.specs.Pieces.{HasRows, IsOwnPiece}
use Rattle.rank_pieces.proofs.MatrixMoves.{added-to-none, own-places}
use Rattle.rank_pieces.proofs.OwnPieces.{before as first-piece}
use Rattle.rank_makings.specs.declared.gathering.Summands.{Summands}
use Rattle.rank_makings.specs.Beginnings.{CanFill, IsAt}
use Rattle.rank_makings.specs.Gathering.{AreSummands}
use Rattle.rank_makings.specs.Lists.{target_list}
use Rattle.rank_makings.proofs.ApplyAnswers.{matrix-there}

module _ {S : Type 0} {R : Semiring S} {F : Conversions S} (laws : IsSemiring R) {job : Job} {files : List File} {me : ℕ} {share : Share} {shapes : List Shape} {pieces : List (Piece S)} {given : List Letter}
    {k : ℕ} (at : IsAt R F job files me share shapes pieces given k) (is : IsSumHere job k) {o : Summands} (said : AreSummands is.sum o) where
  abbrev b : ℕ
  b = is.sum.b

  abbrev mine : ℕ → Table S
  mine = first_pieces R F job files me (arrivals R F job files me given) k

  pub here-there : (m : RankMatrix S) × (slice_get pieces o.b ≡ Some (of.Matrix m))
  here-there = subst (λ w. (m : RankMatrix S) × (slice_get pieces w ≡ Some (of.Matrix m))) (sym said.b) (matrix-there at b is.sum.right.before is.sum.right.sparse)

  transfer-is : transfer_at job k 0 ≡ from_owners (ImportPlan (shape job is.sum.b).rows (shape job is.sum.a).rows)
  transfer-is = ap (λ ts. slice_index_or ts 0 (from_owners (ImportPlan 0 0))) is.sum.transfers_are

  nothing : arrivals R F job files me given k 0 ≡ []
  nothing =
      nothing-comes-by-locals R F job files me k 0 given
      (ap (λ t. is_local t.plan) transfer-is ∙ eq-eqb (shape job is.sum.b).rows (shape job is.sum.a).rows is.here)

  module _ {m : RankMatrix S} (at_b : slice_get pieces o.b ≡ Some (of.Matrix m)) where
    piece-at : slice_get pieces is.sum.b ≡ Some (of.Matrix m)
    piece-at = ap (slice_get pieces) (sym said.b) ∙ at_b

    own-m : IsOwnPiece R F job files me given is.sum.b (of.Matrix m)
    own-m = at.pieces_are.each is.sum.b (of.Matrix m) piece-at

    rows-are : m.matrix.graph.rows ≡ list_of job (shape job is.sum.b).rows me
    rows-are = (subst (λ s. HasRows job files me s is.sum.b m) is.sum.right.whole own-m.of.rows).0

    piece-is : crs_table m.matrix ≡ first_pieces R F job files me (arrivals R F job files me given) k is.sum.b
    piece-is = own-m.table ∙ sym (first-piece R F job files me given k is.sum.b is.sum.right.before at.below)

    abbrev own : Table S
    own = brought job files (transfer_at job k 0) (entries R F job files me k 0 (first_pieces R F job files me (arrivals R F job files me given) k) nowhere) me me

    -- the rank brings all its places of b to itself
    all-brought : own ≡ crs_table m.matrix
    all-brought =
        (λ s. brought job files (transfer-is s) (entries_by R F job files me k (transfer-is s).way 0 (first_pieces R F job files me (arrivals R F job files me given) k) nowhere (is.sum.is s)) me me)
        ∙ (λ s. brought job files (from_owners (ImportPlan (shape job is.sum.b).rows (shape job is.sum.a).rows)) (sym piece-is s) me me)
        ∙ own-places m.matrix (passes job files (from_owners (ImportPlan (shape job is.sum.b).rows (shape job is.sum.a).rows)) me me)
        (λ i e. test (stands i (list_of job (shape job is.sum.a).rows me) && stands i (list_of job (shape job is.sum.b).rows me)) _
        (λ s. there i e (shape job is.sum.a).rows (sym is.here) s && there i e (shape job is.sum.b).rows refl s))
      where
        there : (i : ℕ) → stands i m.matrix.graph.rows ≡ true → (v : ℕ) → v ≡ (shape job is.sum.b).rows → stands i (list_of job v me) ≡ true
        there i e v on = ap (λ w. stands i (list_of job w me)) on ∙ ap (stands i) (sym rows-are) ∙ e

        test : (x y : Bool) → x ≡ true → cond (eqb me me) x y ≡ true
        test x y e = ap (λ d. cond d x y) (eq-eqb me me refl) ∙ e

    gathered-here : gathered_so_far R F job files me given k 0 ≡ crs_table m.matrix
    gathered-here =
        let onto = target_at R F job files me k 0 (first_pieces R F job files me (arrivals R F job files me given) k) in
        let sparse = is.sum.made.structured.sparse in
        let plain = plain-rows-are-added R F job files k 0 me (arrivals R F job files me given) (ap is_plain is.sum.is) sparse in
        ap (λ came. gathered R onto.mode (is_fixed job k) onto.old (own ∷ came)) nothing
        ∙ (λ s i j. after_one R (plain.0 s) (sparse s) (plain.1 s i j) (all-brought s i j))
        ∙ (λ s i j. added-to-none R laws (crs_table m.matrix i j) s)

    -- so they are what came
    pub can-fill-here : (fill : RowCells S) → fill.rows ≡ m.matrix.graph.rows → row_table fill ≡ crs_table m.matrix → CanFill R F job files me share shapes pieces given k fill
    can-fill-here fill rows table = record {
      at = at;
      sparse = is.sum.made.structured.sparse;
      sender = inr (inr (inr (inr (inr (inl is.sum)))));
      stage = 0;
      known = (let one : stage_count job k ≡ 1 = ap (λ ts. length ts) is.sum.transfers_are in omega (arith, one));
      have = record {
        rows = rows ∙ rows-are ∙ ap (λ n. list_of job n me) is.here ∙ ap (target_list job files me pieces) (sym transfer-is);
        table = table ∙ sym gathered-here;
      };
    }
