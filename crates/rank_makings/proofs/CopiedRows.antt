-- Rows of a matrix that is moved, as it is begun.
use Rattle.std.proofs.Common.{◌≡◌, ℕ, ◌⊎◌, inl, inr, true, false, List, [], map, Some, refl, sym, ap, ◌∙◌, subst}
use Rattle.std.specs.Prelude.{slice_get}
use Rattle.std.proofs.lemmas.Option.{same_Some}
use Rattle.scalar_laws.specs.Semiring.{Semiring}
use Rattle.scalar_laws.specs.Conversions.{Conversions}
use Rattle.map_core.specs.Layouts.{IsTotal}
use Rattle.map_core.specs.Plans.{PlanLists}
use Rattle.combine_modes.specs.declared.mode.Mode.TheVariants.{Add}
use Rattle.crs_matrix.specs.ByRow.{by_row}
use Rattle.crs_matrix.specs.Matrices.{crs_table}
use Rattle.crs_matrix.specs.Rows.{RowCells, row_table}
use Rattle.matrix_moves.specs.Arrivals.{HasTargets, after_table}
use Rattle.matrix_moves.specs.Sources.{own_rows}
use Rattle.matrix_moves.proofs.Empty.{new-matrices-are-empty}
use Rattle.mm_text.specs.Reading.{File}
use Rattle.peers.specs.Protocols.{Letter}
use Rattle.model_defs.specs.declared.job.Job.{Job}
use Rattle.model_defs.specs.declared.job.Step.{Step}
use Rattle.model_defs.specs.declared.job.Step.TheVariants as step
use Rattle.model_defs.specs.declared.shape.Shape.{Shape}
use Rattle.model_defs.specs.declared.shape.Sort.TheVariants as sort
use Rattle.model_defs.specs.Makers.{Maker, Made, maker_of}
use Rattle.model_defs.specs.Maps.{layout_of, list_of}
use Rattle.model_defs.specs.Shapes.{is_dense, is_split_sort, shape, shape_by}
use Rattle.model_defs.specs.Valid.{IsValidMaker}
use Rattle.model_defs.proofs.KnownShapes.{shape-of-made}
use Rattle.rank_stages.specs.DataLaws.{copied_by}
use Rattle.vector_moves.specs.Moves.{AreMoves, own_sources, own_targets}
use Rattle.matrix_arrivals.specs.RowsBegun.{is_plain}
use Rattle.rank_pieces.specs.declared.pieces.Piece.{Piece}
use Rattle.rank_pieces.specs.declared.pieces.Piece.TheVariants as of
use Rattle.rank_pieces.specs.declared.pieces.RankMatrix.{RankMatrix}
use Rattle.rank_pieces.specs.Pieces.{HasRows, IsOwnPiece}
use Rattle.rank_makings.specs.declared.coming.RowsComing.{RowsComing}
use Rattle.rank_makings.specs.declared.coming.RowSource.TheVariants as row
use Rattle.rank_makings.specs.Comings.{AreRowsComing, IsBetween, IsSentRows, first_gathered}
use Rattle.rank_makings.specs.Copying.{IsCopying}
use Rattle.rank_makings.proofs.BegunRows.{rows-begun}
use Rattle.rank_makings.proofs.CopiedCells.{entries-are, piece-at}
use Rattle.rank_makings.proofs.CopyPlans.{before, between, source-is, valid}

-- A matrix that is copied is moved, and is not split.
sparse-copies : (job : Job) (k source : ℕ) (m : Maker) → copied_by m ≡ Some source → IsValidMaker job k m → shape job k ≡ shape_by k (shape job) m → is_dense (shape job k).sort ≡ false
    → (is_plain m ≡ true) × (is_split_sort (shape job source).sort ≡ false)
sparse-copies job k source (Made (step.Move name x m)) copied ok s sparse = (refl, whole ok.1)
  where
    same : x ≡ source
    same = same_Some x source copied

    whole : ((shape job x).sort ≡ sort.Vector) ⊎ (((shape job x).sort ≡ sort.Matrix) × IsTotal (layout_of job m)) → is_split_sort (shape job source).sort ≡ false
    whole (inl e) = absurd (let thick = ap (λ z. is_dense z.sort) s ∙ ap is_dense e in let bad : ⊥ = cc in bad)
    whole (inr e) = ap (λ v. is_split_sort (shape job v).sort) (sym same) ∙ ap is_split_sort e.0
sparse-copies job k source (Made (step.Import name x onto mode)) copied ok s sparse = absurd (let thick = ap (λ z. is_dense z.sort) s ∙ ap is_dense ok.1.1 in let bad : ⊥ = cc in bad)
sparse-copies job k source (Made (step.Export name x onto mode)) copied ok s sparse = absurd (let thick = ap (λ z. is_dense z.sort) s ∙ ap is_dense ok.1.1 in let bad : ⊥ = cc in bad)
sparse-copies job k source (Made (step.Spread name x m)) copied ok s sparse = absurd (let thick = ap (λ z. is_dense z.sort) s in let bad : ⊥ = cc in bad)
sparse-copies job k source m copied ok s sparse = absurd (let bad : ⊥ = cc in bad)

module _ {S : Type 0} {R : Semiring S} {F : Conversions S} {job : Job} {files : List File} {me : ℕ} {pieces : List (Piece S)} {given : List Letter} {k stage : ℕ} {s : Step} {here : Shape}
    {source : ℕ} {plan : PlanLists} (c : IsCopying R F job files me pieces given k stage s here source plan) {m : RankMatrix S} (at : slice_get pieces source ≡ Some (of.Matrix m)) where
  own-matrix : IsOwnPiece R F job files me given source (of.Matrix m)
  own-matrix = piece-at c source (of.Matrix m) (before c) at

  sparse : is_dense (shape job k).sort ≡ false
  sparse = c.copy.same_kind ∙ ap (λ v. is_dense (shape job v).sort) (sym (source-is c)) ∙ own-matrix.of.sparse

  moved : (is_plain (maker_of job k) ≡ true) × (is_split_sort (shape job source).sort ≡ false)
  moved =
      sparse-copies job k source (maker_of job k) (ap copied_by (sym c.step_is) ∙ c.copied) ((valid c).values k c.copy.below)
      (shape-of-made job (valid c) k c.copy.below) sparse

  matrix-rows : m.matrix.graph.rows ≡ list_of job (shape job source).rows me
  matrix-rows = (subst (λ b. HasRows job files me b source m) moved.1 own-matrix.of.rows).0

  module _ {list : List ℕ} (list_is : list ≡ list_of job here.rows me) {a : RowCells S} (a_is : a ≡ by_row m.matrix) where
    on-list : list ≡ list_of job (shape job k).rows me
    on-list = list_is ∙ ap (λ z. list_of job z.rows me) c.here_is

    rows-are : a.rows ≡ list_of job (shape job source).rows me
    rows-are = ap (λ r. r.rows) a_is ∙ matrix-rows

    module _ {empty : RowCells S} (empty_is : empty ≡ record { rows = list; cells = map (λ _. []) list }) where
      goes : IsBetween R F job files me pieces given k stage a.rows empty.rows plan
      goes = between c a.rows empty.rows rows-are (ap (λ r. r.rows) empty_is ∙ on-list)

      pub own-rows-move : AreMoves a.rows empty.rows (own_sources plan) (own_targets plan)
      own-rows-move = goes.serves.own

      pub rows-have-targets : HasTargets plan empty.rows
      rows-have-targets = goes.serves.targets

      pub copied-rows-begun : row_table a ≡ crs_table m.matrix → (g : RowsComing S) → g.source ≡ row.Piece source
          → g.arriving.plan ≡ plan → g.arriving.mode ≡ Add → g.arriving.fill.rows ≡ empty.rows
          → row_table g.arriving.fill ≡ after_table R Add (row_table empty) (own_rows plan a)
          → AreRowsComing R F job files me pieces given k stage (first_gathered R F job files me pieces given k stage) g
      copied-rows-begun table_is g from kept by on table =
          rows-begun R F job files me pieces given k stage c.phase c.sends c.heard sparse moved.0 a empty plan g
          (subst (λ r. IsSentRows pieces r a) (sym from) (m, at, sym a_is))
          goes
          (table_is ∙ own-matrix.table ∙ sym (entries-are c))
          (ap row_table empty_is ∙ new-matrices-are-empty list)
          kept by on table
