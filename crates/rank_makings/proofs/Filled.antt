-- The rank's matrix under construction: of the rows that came, of the part that was dealt to it, a product, or a sum.
use Rattle.std.proofs.Common.{◌≡◌, ℕ, zero, suc, ◌<◌, ◌⊎◌, inl, inr, Bool, true, false, cond, List, [], ◌∷◌, length, get_or, Some, refl, sym, ap, ◌∙◌, subst, arith}
use Rattle.std.specs.Prelude.{slice_get}
use Rattle.scalar_laws.specs.Semiring.{Semiring}
use Rattle.scalar_laws.specs.Conversions.{Conversions}
use Rattle.tables.specs.Indices.{AreBelow, stands}
use Rattle.tables.specs.Tables.{Table}
use Rattle.crs_matrix.specs.Matrices.{crs_table}
use Rattle.crs_matrix.specs.Rows.{RowCells, row_table}
use Rattle.map_core.specs.Layouts.{IsTotal}
use Rattle.mm_text.specs.Reading.{File}
use Rattle.peers.specs.Protocols.{Letter}
use Rattle.model_defs.specs.declared.job.Job.{Job}
use Rattle.model_defs.specs.declared.job.Step.TheVariants as step
use Rattle.model_defs.specs.declared.phase.Plan.TheVariants.{ColumnPlan, ImportPlan, RowPlan}
use Rattle.model_defs.specs.declared.phase.Transfer.{Transfer}
use Rattle.model_defs.specs.declared.shape.Sort.TheVariants.{Vector, Matrix}
use Rattle.model_defs.specs.Given.{dealt_part, given as given_value, given_matrix}
use Rattle.model_defs.specs.Machine.{arrivals, piece}
use Rattle.model_defs.specs.Makers.{Maker, GivenVector, GivenParts, GivenMatrix, Made, maker_of, value_count}
use Rattle.model_defs.specs.FileMatrix.{number_of}
use Rattle.model_defs.specs.Maps.{layout_of, list_of, size_of}
use Rattle.model_defs.specs.Operations.{combination, product}
use Rattle.model_defs.specs.Plans.{rank_rows}
use Rattle.model_defs.specs.Shapes.{is_dense, is_split_sort, shape, shape_by}
use Rattle.model_defs.specs.Stages.{first_pieces, gathered_after, last_way, made_by, made_piece, stage_count, transfer_at}
use Rattle.model_defs.specs.Transfers.{from_owners, to_owners, transfers}
use Rattle.model_defs.specs.Valid.{IsValid, IsValidMaker}
use Rattle.model_defs.proofs.KnownShapes.{shape-of-made}
use Rattle.rank_stages.specs.DataLaws.{copied_by}
use Rattle.rank_stages.proofs.MadeValues.{pieces_are_made}
use Rattle.rank_transfers.proofs.Local.{copies-are-gathered}
use Rattle.value_phases.specs.ValueKinds.{IsAssembled, IsGivenSplit, IsProduct, IsSender, IsSum}
use Rattle.value_phases.specs.ValuePhases.{copy_transfer}
use Rattle.rank_share.specs.declared.share.Share.{Share}
use Rattle.model_defs.specs.declared.shape.Shape.{Shape}
use Rattle.rank_pieces.specs.declared.pieces.Piece.{Piece}
use Rattle.rank_pieces.specs.declared.pieces.Piece.TheVariants as of
use Rattle.rank_pieces.specs.declared.pieces.RankMatrix.{RankMatrix}
use Rattle.rank_pieces.specs.Pieces.{HasRows, IsOwnPiece}
use Rattle.rank_pieces.proofs.OwnPieces.{before as first-piece}
use Rattle.rank_makings.specs.declared.gathering.Factors.{Factors}
use Rattle.rank_makings.specs.declared.gathering.Summands.{Summands}
use Rattle.rank_makings.specs.Beginnings.{CanFill}
use Rattle.rank_makings.specs.Comings.{IsFilled}
use Rattle.rank_makings.specs.Gathering.{AreFactors, AreSummands, is_product, is_sum}
use Rattle.rank_makings.specs.Lists.{columns_in, target_list}
use Rattle.rank_makings.proofs.ApplyAnswers.{matrix-there}
use Rattle.rank_makings.proofs.ApplyPlans.{below as along-below, columns-along}

-- ---- which list they are on

module _ {S : Type 0} (job : Job) (files : List File) (me : ℕ) (pieces : List (Piece S)) (k source : ℕ) where
  -- the rank's list of the map of the value
  copy-target : (m : Maker) → target_list job files me pieces (copy_transfer job k source m) ≡ list_of job (shape job k).rows me
  copy-target (GivenVector spec) = refl
  copy-target (GivenParts spec) = refl
  copy-target (GivenMatrix spec) = refl
  copy-target (Made (step.Move name x m)) = refl
  copy-target (Made (step.Import name x onto mode)) = refl
  copy-target (Made (step.Export name x onto mode)) = refl
  copy-target (Made (step.Spread name x m)) = refl
  copy-target (Made (step.Update name x y alpha beta)) = refl
  copy-target (Made (step.Scale name value alpha)) = refl
  copy-target (Made (step.Apply name a x y alpha beta transposed)) = refl
  copy-target (Made (step.Transpose name a)) = refl
  copy-target (Made (step.Multiply name a b)) = refl
  copy-target (Made (step.Add name a b alpha beta)) = refl
  copy-target (Made (step.Assemble name x onto mode)) = refl
  copy-target (Made (step.Print value)) = refl

-- a matrix that is copied is whole
copy-whole : (job : Job) (k source : ℕ) → IsValid job → k < value_count job → copied_by (maker_of job k) ≡ Some source → is_dense (shape job k).sort ≡ false → is_split_sort (shape job k).sort ≡ false
copy-whole job k source valid l copied sparse = by (maker_of job k) copied (valid.values k l) (shape-of-made job valid k l)
  where
    thick : {A : Type 0} → is_dense (shape job k).sort ≡ true → A
    thick e = absurd (let bad : ⊥ = cc in bad)

    by : (m : Maker) → copied_by m ≡ Some source → IsValidMaker job k m → shape job k ≡ shape_by k (shape job) m → is_split_sort (shape job k).sort ≡ false
    by (GivenVector spec) c v s = absurd (cc)
    by (GivenParts spec) c v s = absurd (cc)
    by (GivenMatrix spec) c v s = absurd (cc)
    by (Made (step.Move name x m)) c v s = moved v.1
      where
        moved : ((shape job x).sort ≡ Vector) ⊎ (((shape job x).sort ≡ Matrix) × IsTotal (layout_of job m)) → is_split_sort (shape job k).sort ≡ false
        moved (inl e) = thick (ap (λ z. is_dense z.sort) s ∙ ap is_dense e)
        moved (inr e) = ap (λ z. is_split_sort z.sort) s ∙ ap is_split_sort e.0
    by (Made (step.Import name x onto mode)) c v s = thick (ap (λ z. is_dense z.sort) s ∙ ap is_dense v.1.1)
    by (Made (step.Export name x onto mode)) c v s = thick (ap (λ z. is_dense z.sort) s ∙ ap is_dense v.1.1)
    by (Made (step.Spread name x m)) c v s = thick (ap (λ z. is_dense z.sort) s)
    by (Made (step.Update name x y alpha beta)) c v s = absurd (cc)
    by (Made (step.Scale name value alpha)) c v s = absurd (cc)
    by (Made (step.Apply name a x y alpha beta transposed)) c v s = absurd (cc)
    by (Made (step.Transpose name a)) c v s = absurd (cc)
    by (Made (step.Multiply name a b)) c v s = absurd (cc)
    by (Made (step.Add name a b alpha beta)) c v s = absurd (cc)
    by (Made (step.Assemble name x onto mode)) c v s = absurd (cc)
    by (Made (step.Print value)) c v s = absurd (cc)

-- ---- what they are

module _ {S : Type 0} (R : Semiring S) (F : Conversions S) (job : Job) (files : List File) (me : ℕ) (given : List Letter) (k : ℕ) (l : k < value_count job) where
  piece-made : piece R F job files me k given
      ≡ made_piece R F job files me k (first_pieces R F job files me (arrivals R F job files me given) k)
      (gathered_after R F job files me (arrivals R F job files me given) k (first_pieces R F job files me (arrivals R F job files me given) k) (stage_count job k))
  piece-made = pieces_are_made R F job files me k given l

  assembled-made : IsAssembled job k → (got : Table S) → made_piece R F job files me k (first_pieces R F job files me (arrivals R F job files me given) k) got ≡ got
  assembled-made is got =
      ap (made_by R F job files me k (last_way (transfers job k)) (first_pieces R F job files me (arrivals R F job files me given) k) got) is.is
      ∙ ap (λ b. cond b (given_value R F job files k (GivenMatrix is.spec) me) got) is.whole

  pub split-made : (is : IsGivenSplit job k) → piece R F job files me k given ≡ dealt_part R F job files k me
  split-made is =
      piece-made
      ∙ ap (made_by R F job files me k (last_way (transfers job k)) (first_pieces R F job files me (arrivals R F job files me given) k)
      (gathered_after R F job files me (arrivals R F job files me given) k (first_pieces R F job files me (arrivals R F job files me given) k) (stage_count job k))) is.is
      ∙ ap (λ b. cond b (given_matrix R F job files k b me)
      (gathered_after R F job files me (arrivals R F job files me given) k (first_pieces R F job files me (arrivals R F job files me given) k) (stage_count job k))) is.split

module _ {S : Type 0} {R : Semiring S} {F : Conversions S} {job : Job} {files : List File} {me : ℕ} {share : Share} {shapes : List Shape} {pieces : List (Piece S)} {given : List Letter}
    {k : ℕ} {came : RowCells S} (can : CanFill R F job files me share shapes pieces given k came) where
  abbrev mine : ℕ → Table S
  mine = first_pieces R F job files me (arrivals R F job files me given) k

  abbrev Fills : RowCells S → Type 0
  Fills fill = IsFilled R F job files me pieces given k fill

  below : k < value_count job
  below = can.at.below

  on-map : (fill : RowCells S) → is_split_sort (shape job k).sort ≡ false → fill.rows ≡ list_of job (shape job k).rows me
      → fill.rows ≡ cond (is_split_sort (shape job k).sort) (rank_rows job files k me) (list_of job (shape job k).rows me)
  on-map fill whole rows = rows ∙ sym (ap (λ b. cond b (rank_rows job files k me) (list_of job (shape job k).rows me)) whole)

  -- ---- its only transfer

  module _ (t : Transfer) (only : transfers job k ≡ t ∷ []) where
    first : transfer_at job k can.stage ≡ t
    first =
        let known = can.known in
        let one : stage_count job k ≡ 1 = ap (λ ts. length ts) only in
        let zeroth : can.stage ≡ 0 = omega (arith, known, one) in
        (λ i. get_or (only i) (zeroth i) (from_owners (ImportPlan 0 0)))

    came-rows : came.rows ≡ target_list job files me pieces t
    came-rows = can.have.rows ∙ ap (target_list job files me pieces) first

    -- the piece is made of what came
    made-of : piece R F job files me k given ≡ made_piece R F job files me k mine (row_table came)
    made-of =
        let known = can.known in
        let one : stage_count job k ≡ 1 = ap (λ ts. length ts) only in
        let last : stage_count job k ≡ suc can.stage = omega (arith, known, one) in
        piece-made R F job files me given k below
        ∙ ap (λ n. made_piece R F job files me k mine (gathered_after R F job files me (arrivals R F job files me given) k mine n)) last
        ∙ ap (made_piece R F job files me k mine) (sym can.have.table)

    -- and is what came, where nothing else is done
    as-came : is_split_sort (shape job k).sort ≡ false → target_list job files me pieces t ≡ list_of job (shape job k).rows me
        → ((got : Table S) → made_piece R F job files me k mine got ≡ got) → Fills came
    as-came whole on same = record { rows = on-map came whole (came-rows ∙ on); table = sym (made-of ∙ same (row_table came)) }

  -- ---- rows that came as they are

  made-same : (m : Maker) → maker_of job k ≡ m → ((got : Table S) → made_by R F job files me k (last_way (transfers job k)) mine got m ≡ got) → (got : Table S) → made_piece R F job files me k mine got ≡ got
  made-same m e same got = ap (made_by R F job files me k (last_way (transfers job k)) mine got) e ∙ same got

  pub filled-as-came : is_product (maker_of job k) ≡ false → is_sum (maker_of job k) ≡ false → Fills came
  filled-as-came no_product no_sum = by can.sender
    where
      by : IsSender job k → Fills came
      by (inl copy) =
          as-came _ copy.transfers (copy-whole job k copy.source can.at.input.valid below copy.copied can.sparse) (copy-target job files me pieces k copy.source (maker_of job k))
          (λ got. (copies-are-gathered R F job files k copy.source me mine got copy.copied).1)
      by (inr (inl apply)) = absurd (let thick = apply.dense in let thin = can.sparse in let bad : ⊥ = cc in bad)
      by (inr (inr (inl is))) = as-came _ is.transfers_are is.not_split refl (assembled-made R F job files me given k below is)
      by (inr (inr (inr (inl is)))) =
          as-came _ is.transfers_are is.made.whole (ap (λ n. list_of job n me) (sym is.made.rows)) (made-same _ is.is (λ got. refl))
      by (inr (inr (inr (inr (inl is))))) = absurd (let yes = sym (ap is_product is.is) ∙ no_product in let bad : ⊥ = cc in bad)
      by (inr (inr (inr (inr (inr (inl is)))))) = absurd (let yes = sym (ap is_sum is.is) ∙ no_sum in let bad : ⊥ = cc in bad)
      by (inr (inr (inr (inr (inr (inr is)))))) =
          as-came _ is.transfers_are is.made.whole (ap (λ n. list_of job n me) (sym is.made.rows)) (made-same _ is.is (λ got. refl))

  -- ---- pieces before

  own-of : {v : ℕ} {m : RankMatrix S} → slice_get pieces v ≡ Some (of.Matrix m) → IsOwnPiece R F job files me given v (of.Matrix m)
  own-of {v} {m} at = can.at.pieces_are.each v (of.Matrix m) at

  first-of : {v : ℕ} {m : RankMatrix S} → v < k → slice_get pieces v ≡ Some (of.Matrix m) → crs_table m.matrix ≡ mine v
  first-of {v} {m} l at = (own-of at).table ∙ sym (first-piece R F job files me given k v l below)

  rows-of : (v : ℕ) {m : RankMatrix S} → is_split_sort (shape job v).sort ≡ false → slice_get pieces v ≡ Some (of.Matrix m) → m.matrix.graph.rows ≡ list_of job (shape job v).rows me
  rows-of v {m} whole at = (subst (λ b. HasRows job files me b v m) whole (own-of at).of.rows).0

  -- ---- a product of the rank's rows of a with the rows of b that came

  module _ (is : IsProduct job k) {o : Factors} (said : AreFactors is o) where
    pub factor-there : (m : RankMatrix S) × (slice_get pieces o.a ≡ Some (of.Matrix m))
    factor-there = subst (λ w. (m : RankMatrix S) × (slice_get pieces w ≡ Some (of.Matrix m))) (sym said.a) (matrix-there can.at is.a is.left.before is.left.sparse)

    module _ {m : RankMatrix S} (at_a : slice_get pieces o.a ≡ Some (of.Matrix m)) where
      factor-at : slice_get pieces is.a ≡ Some (of.Matrix m)
      factor-at = ap (slice_get pieces) (sym said.a) ∙ at_a

      pub factor-rows : came.rows ≡ m.matrix.graph.cols
      factor-rows = came-rows (from_owners (ColumnPlan is.a)) is.transfers_are ∙ ap columns_in factor-at

      columns-below : AreBelow (size_of job (shape job is.a).domain) m.matrix.graph.cols
      columns-below = along-below job files me pieces can.at.input.valid (columns-along job files me pieces (own-of factor-at).of factor-at)

      pub product-filled : (fill : RowCells S) → fill.rows ≡ m.matrix.graph.rows
          → ((n : ℕ) → AreBelow n m.matrix.graph.cols → row_table fill ≡ product R n (crs_table m.matrix) (row_table came)) → Fills fill
      product-filled fill rows table = record {
        rows = on-map fill is.made.whole (rows ∙ rows-of is.a is.left.whole factor-at ∙ ap (λ n. list_of job n me) (sym is.made.rows));
        table =
            table (size_of job (shape job is.a).domain) columns-below
            ∙ ap (λ a. product R (size_of job (shape job is.a).domain) a (row_table came)) (first-of is.left.before factor-at)
            ∙ ap (made_by R F job files me k (last_way (transfers job k)) mine (row_table came)) (sym is.is)
            ∙ sym (made-of (from_owners (ColumnPlan is.a)) is.transfers_are);
      }

  -- ---- a sum of the rank's rows of a and the rows of b that came

  module _ (is : IsSum job k) {o : Summands} (said : AreSummands is o) where
    pub summand-there : (m : RankMatrix S) × (slice_get pieces o.a ≡ Some (of.Matrix m))
    summand-there = subst (λ w. (m : RankMatrix S) × (slice_get pieces w ≡ Some (of.Matrix m))) (sym said.a) (matrix-there can.at is.a is.left.before is.left.sparse)

    module _ {m : RankMatrix S} (at_a : slice_get pieces o.a ≡ Some (of.Matrix m)) where
      summand-at : slice_get pieces is.a ≡ Some (of.Matrix m)
      summand-at = ap (slice_get pieces) (sym said.a) ∙ at_a

      -- both have the rank's own rows
      pub summand-rows : (g : ℕ) → stands g m.matrix.graph.rows ≡ stands g came.rows
      summand-rows g =
          ap (stands g) (rows-of is.a is.left.whole summand-at ∙ sym (came-rows (from_owners (ImportPlan (shape job is.b).rows (shape job is.a).rows)) is.transfers_are))

      pub sum-filled : (alpha beta : S) → alpha ≡ number_of R F o.alpha → beta ≡ number_of R F o.beta → (fill : RowCells S) → fill.rows ≡ m.matrix.graph.rows
          → row_table fill ≡ combination R alpha (crs_table m.matrix) beta (row_table came) → Fills fill
      sum-filled alpha beta alpha_is beta_is fill rows table = record {
        rows = on-map fill is.made.whole (rows ∙ rows-of is.a is.left.whole summand-at ∙ ap (λ n. list_of job n me) (sym is.made.rows));
        table =
            table
            ∙ (λ i. combination R ((alpha_is ∙ ap (number_of R F) said.alpha) i) (first-of is.left.before summand-at i) ((beta_is ∙ ap (number_of R F) said.beta) i) (row_table came))
            ∙ ap (made_by R F job files me k (last_way (transfers job k)) mine (row_table came)) (sym is.is)
            ∙ sym (made-of (from_owners (ImportPlan (shape job is.b).rows (shape job is.a).rows)) is.transfers_are);
      }

-- ---- the part of a matrix that is split

module _ {S : Type 0} (R : Semiring S) (F : Conversions S) (job : Job) (files : List File) (me : ℕ) (pieces : List (Piece S)) (given : List Letter) (k : ℕ) (is : IsGivenSplit job k) where
  pub part-filled : (fill : RowCells S) → fill.rows ≡ rank_rows job files k me → row_table fill ≡ dealt_part R F job files k me → IsFilled R F job files me pieces given k fill
  part-filled fill rows table = record {
    rows = rows ∙ sym (ap (λ b. cond b (rank_rows job files k me) (list_of job (shape job k).rows me)) is.is_split);
    table = table ∙ sym (split-made R F job files me given k is.structured.below is);
  }
