-- Cells of a vector or of parts, as a value of them is begun.
use Rattle.std.proofs.Common.{◌≡◌, ℕ, zero, suc, ◌<◌, ◌≤◌, true, List, [], ◌∷◌, length, Option, None, Some, refl, sym, ap, ◌∙◌, subst, arith}
use Rattle.std.specs.Prelude.{slice_get}
use Rattle.std.proofs.lemmas.Option.{same_Some}
use Rattle.scalar_laws.specs.Semiring.{Semiring}
use Rattle.scalar_laws.specs.Conversions.{Conversions}
use Rattle.tables.specs.Tables.{Table}
use Rattle.map_core.specs.Plans.{PlanLists}
use Rattle.combine_modes.specs.declared.mode.Mode.{Mode}
use Rattle.mm_text.specs.Reading.{File}
use Rattle.multivector.specs.Vectors.{HasSameShape, VectorState}
use Rattle.peers.specs.Protocols.{Letter}
use Rattle.model_defs.specs.declared.job.Job.{Job}
use Rattle.model_defs.specs.declared.job.Step.{Step}
use Rattle.model_defs.specs.declared.job.Step.TheVariants as step
use Rattle.model_defs.specs.declared.phase.Transfer.{Transfer}
use Rattle.model_defs.specs.declared.phase.Way.{Way}
use Rattle.model_defs.specs.declared.shape.Shape.{Shape}
use Rattle.model_defs.specs.Machine.{arrivals, piece}
use Rattle.model_defs.specs.Makers.{Maker, Made, maker_of}
use Rattle.model_defs.specs.Maps.{has_index, list_of}
use Rattle.model_defs.specs.Operations.{filled}
use Rattle.model_defs.specs.Plans.{is_target_row}
use Rattle.model_defs.specs.Shapes.{is_dense, shape}
use Rattle.model_defs.specs.Stages.{Target, entries_by, first_pieces, gathered_after, plain_target, rank_entries, target, target_at, target_by, transfer_at}
use Rattle.rank_stages.specs.DataLaws.{copied_by}
use Rattle.rank_transfers.specs.Arrivals.{HasFewRows, HasTargets, after_table, own_rows}
use Rattle.rank_transfers.specs.JobRows.{CanBegin}
use Rattle.rank_values.specs.Vectors.{global_table}
use Rattle.dense_arrivals.specs.DenseBegun.{AgreeOn}
use Rattle.dense_arrivals.proofs.Begun.{cells-are-begun, serving-plans-can-begin}
use Rattle.vector_moves.specs.Moves.{AreMoves, own_sources, own_targets}
use Rattle.value_phases.specs.ValuePhases.{copy_transfer, mode_of, onto_of}
use Rattle.rank_pieces.specs.declared.pieces.Piece.{Piece}
use Rattle.rank_pieces.specs.declared.pieces.Piece.TheVariants as of
use Rattle.rank_pieces.specs.Pieces.{IsOwnPiece}
use Rattle.rank_pieces.proofs.OwnPieces.{before as first-piece}
use Rattle.rank_makings.specs.declared.coming.CellsComing.{CellsComing}
use Rattle.rank_makings.specs.declared.coming.CellSource.TheVariants as cell
use Rattle.rank_makings.specs.Comings.{AreCellsComing, IsBetween, IsCellSource, first_gathered}
use Rattle.rank_makings.specs.Copying.{IsCopying}
use Rattle.rank_makings.proofs.CopyPlans.{before, between, served, source-is, transfer-is}

-- its entries are the cells of the source
pub entries-copied : {S : Type 0} (R : Semiring S) (F : Conversions S) (job : Job) (files : List File) (p k : ℕ) (way : Way) (stage : ℕ) (mine : ℕ → Table S) (got : Table S) (m : Maker) (source : ℕ)
    → copied_by m ≡ Some source → entries_by R F job files p k way stage mine got m ≡ mine source
entries-copied R F job files p k way stage mine got (Made (step.Move name x t)) source e = ap mine (same_Some x source e)
entries-copied R F job files p k way stage mine got (Made (step.Import name x onto mode)) source e = ap mine (same_Some x source e)
entries-copied R F job files p k way stage mine got (Made (step.Export name x onto mode)) source e = ap mine (same_Some x source e)
entries-copied R F job files p k way stage mine got (Made (step.Spread name x t)) source e = ap mine (same_Some x source e)
entries-copied R F job files p k way stage mine got m source e = absurd (let bad : ⊥ = cc in bad)

-- onto what they are gathered: the rank's piece that the statement names, or noughts
abbrev pub onto_table : {S : Type 0} → Semiring S → Job → ℕ → Shape → (ℕ → Table S) → Option ℕ → Table S
onto_table R job me here mine None = filled (has_index job here.rows me) here.columns R.nought
onto_table R job me here mine (Some o) = mine o

module _ {S : Type 0} (R : Semiring S) (job : Job) (files : List File) (me k source : ℕ) (mine : ℕ → Table S) where
  abbrev plain : Transfer → Target S
  plain t = plain_target true t.way (filled (is_target_row job files t me) (shape job k).columns R.nought)

  onto-copied : (m : Maker) → copied_by m ≡ Some source → target_by mine (plain (copy_transfer job k source m)) m ≡ target (mode_of m) (onto_table R job me (shape job k) mine (onto_of m))
  onto-copied (Made (step.Move name x t)) e = refl
  onto-copied (Made (step.Import name x onto mode)) e = refl
  onto-copied (Made (step.Export name x onto mode)) e = refl
  onto-copied (Made (step.Spread name x t)) e = refl
  onto-copied m e = absurd (let bad : ⊥ = cc in bad)

-- What is asked where the rows that stay of a vector are combined into another one by these lists.
pub record MayBegin {S : Type 0} (x onto : VectorState S) (lists : PlanLists) : Type 0 where
  pub columns : x.columns ≡ onto.columns
  pub some_column : 1 ≤ onto.columns
  pub few_columns : onto.columns ≤ 16
  pub few_rows : HasFewRows lists
  pub own : AreMoves x.map onto.map (own_sources lists) (own_targets lists)
  pub targets : HasTargets lists onto.map

-- what the cells are combined with
pub record IsOnto {S : Type 0} (R : Semiring S) (F : Conversions S) (job : Job) (files : List File) (me : ℕ) (given : List Letter) (k : ℕ) (m : Maker) (onto : VectorState S) : Type 0 where
  pub map : onto.map ≡ list_of job (shape job k).rows me
  pub columns : onto.columns ≡ (shape job k).columns
  pub table : global_table onto ≡ onto_table R job me (shape job k) (first_pieces R F job files me (arrivals R F job files me given) k) (onto_of m)

module _ {S : Type 0} {R : Semiring S} {F : Conversions S} {job : Job} {files : List File} {me : ℕ} {pieces : List (Piece S)} {given : List Letter} {k stage : ℕ} {s : Step} {here : Shape}
    {source : ℕ} {plan : PlanLists} (c : IsCopying R F job files me pieces given k stage s here source plan) where
  -- the rank's piece of a value before
  pub piece-at : (v : ℕ) (p : Piece S) → v < k → slice_get pieces v ≡ Some p → IsOwnPiece R F job files me given v p
  piece-at v p l at = c.at.pieces_are.each v p at

  pub first-is : (v : ℕ) → v < k → first_pieces R F job files me (arrivals R F job files me given) k v ≡ piece R F job files me v given
  first-is v l = first-piece R F job files me given k v l c.copy.below

  -- its entries are the rank's piece of the source
  pub entries-are : rank_entries R F job files me (arrivals R F job files me given) k stage ≡ piece R F job files me source given
  entries-are =
      entries-copied R F job files me k (transfer_at job k stage).way stage (first_pieces R F job files me (arrivals R F job files me given) k)
      (gathered_after R F job files me (arrivals R F job files me given) k (first_pieces R F job files me (arrivals R F job files me given) k) stage)
      (maker_of job k) source (ap copied_by (sym c.step_is) ∙ c.copied)
      ∙ first-is source (before c)

  pub there : (v : ℕ) → v < k → (p : Piece S) × (slice_get pieces v ≡ Some p)
  there v l = some pieces v (let many = c.at.pieces_are.many in omega (arith, many, l))
    where
      some : (xs : List (Piece S)) (n : ℕ) → n < length xs → (p : Piece S) × (slice_get xs n ≡ Some p)
      some [] n l = absurd (omega arith)
      some (x ∷ xs) zero l = (x, refl)
      some (x ∷ xs) (suc n) l = some xs n (omega arith)

module _ {S : Type 0} {R : Semiring S} {F : Conversions S} {job : Job} {files : List File} {me : ℕ} {pieces : List (Piece S)} {given : List Letter} {k stage : ℕ} {s : Step} {here : Shape}
    {source : ℕ} {plan : PlanLists} (c : IsCopying R F job files me pieces given k stage s here source plan) {x : VectorState S} (at : slice_get pieces source ≡ Some (of.Vector x)) where
  own-source : IsOwnPiece R F job files me given source (of.Vector x)
  own-source = piece-at c source (of.Vector x) (before c) at

  pub dense : is_dense (shape job k).sort ≡ true
  dense = c.copy.same_kind ∙ ap (λ v. is_dense (shape job v).sort) (sym (source-is c)) ∙ own-source.of.dense

  -- a value before that is a vector, too, where it is dense
  dense-there : (o : ℕ) → is_dense (shape job o).sort ≡ true → (p : Piece S) → slice_get pieces o ≡ Some p → IsOwnPiece R F job files me given o p
      → (v : VectorState S) × (slice_get pieces o ≡ Some (of.Vector v))
  dense-there o thick (of.Vector v) at is = (v, at)
  dense-there o thick (of.Matrix m) at is = absurd (let thin = is.of.sparse in let bad : ⊥ = cc in bad)

  pub onto-there : (o : ℕ) → onto_of (Made s) ≡ Some o → (v : VectorState S) × (slice_get pieces o ≡ Some (of.Vector v))
  onto-there o e =
      let known = c.copy.onto o (ap onto_of (sym c.step_is) ∙ e) in
      let one = there c o known.0 in
      dense-there o (sym (ap (λ s. is_dense s.sort) known.1) ∙ dense) one.0 one.1 (piece-at c o one.0 known.0 one.1)

  module _ {onto : VectorState S}
      (zeros : onto_of (Made s) ≡ None → (onto.map ≡ list_of job here.rows me) × ((onto.columns ≡ here.columns) × (global_table onto ≡ filled (has_index job here.rows me) here.columns R.nought)))
      (own : (o : ℕ) → onto_of (Made s) ≡ Some o → slice_get pieces o ≡ Some (of.Vector onto)) where
    onto-is : IsOnto R F job files me given k (Made s) onto
    onto-is = by (onto_of (Made s)) refl
      where
        by : (o : Option ℕ) → onto_of (Made s) ≡ o → IsOnto R F job files me given k (Made s) onto
        by None e =
            let is = zeros e in
            record {
              map = is.0 ∙ ap (λ s. list_of job s.rows me) c.here_is;
              columns = is.1.0 ∙ ap (λ s. s.columns) c.here_is;
              table =
                  is.1.1
                  ∙ ap (λ s. filled (has_index job s.rows me) s.columns R.nought) c.here_is
                  ∙ ap (onto_table R job me (shape job k) (first_pieces R F job files me (arrivals R F job files me given) k)) (sym e);
            }
        by (Some o) e =
            let at = own o e in
            let known = c.copy.onto o (ap onto_of (sym c.step_is) ∙ e) in
            let mine = piece-at c o (of.Vector onto) known.0 at in
            record {
              map = mine.of.map ∙ ap (λ s. list_of job s.rows me) (sym known.1);
              columns = mine.of.columns ∙ ap (λ s. s.columns) (sym known.1);
              table =
                  mine.table
                  ∙ sym (first-is c o known.0)
                  ∙ ap (onto_table R job me (shape job k) (first_pieces R F job files me (arrivals R F job files me given) k)) (sym e);
            }

    source-map : x.map ≡ list_of job (shape job source).rows me
    source-map = own-source.of.map

    x-columns : x.columns ≡ (shape job k).columns
    x-columns = own-source.of.columns ∙ ap (λ v. (shape job v).columns) (source-is c) ∙ sym c.copy.same_columns

    begins : CanBegin (list_of job (shape job source).rows me) (list_of job (shape job k).rows me) plan
    begins =
        serving-plans-can-begin job files (transfer_at job k stage) me (list_of job (shape job source).rows me) (list_of job (shape job k).rows me) plan (served c).serves (served c).few_rows

    pub may-begin : MayBegin x onto plan
    may-begin =
        let on_map = c.at.phased.shapes k c.copy.below in
        record {
          columns = x-columns ∙ sym onto-is.columns;
          some_column = subst (λ n. 1 ≤ n) (sym onto-is.columns) (on_map.some_column dense);
          few_columns = subst (λ n. n ≤ 16) (sym onto-is.columns) (on_map.few_columns dense);
          few_rows = begins.few_rows;
          own =
              subst (λ m. AreMoves m onto.map (own_sources plan) (own_targets plan)) (sym source-map)
              (subst (λ m. AreMoves (list_of job (shape job source).rows me) m (own_sources plan) (own_targets plan)) (sym onto-is.map) begins.own);
          targets = subst (HasTargets plan) (sym onto-is.map) begins.targets;
        }

    -- onto what the machine gathers
    target-is : target_at R F job files me k stage (first_pieces R F job files me (arrivals R F job files me given) k) ≡ target (mode_of (Made s)) (global_table onto)
    target-is =
        let mine = first_pieces R F job files me (arrivals R F job files me given) k in
        (λ i. target_by mine (plain_target (dense i) (transfer-is c i).way (filled (is_target_row job files (transfer-is c i) me) (shape job k).columns R.nought)) (maker_of job k))
        ∙ onto-copied R job files me k source mine (maker_of job k) (ap copied_by (sym c.step_is) ∙ c.copied)
        ∙ (λ i. target (mode_of (sym c.step_is i)) (onto_table R job me (shape job k) mine (onto_of (sym c.step_is i))))
        ∙ ap (target (mode_of (Made s))) (sym onto-is.table)

    pub cells-begun : (mode : Mode) → mode ≡ mode_of (Made s) → (g : CellsComing S) → g.source ≡ cell.Piece source → g.arriving.plan ≡ plan → g.arriving.mode ≡ mode → HasSameShape onto g.arriving.vector
        → global_table g.arriving.vector ≡ after_table R mode (global_table onto) (own_rows plan x)
        → AreCellsComing R F job files me pieces given k stage (first_gathered R F job files me pieces given k stage) g
    cells-begun mode mode_is g from kept by shaped rows =
        let entries : global_table x ≡ rank_entries R F job files me (arrivals R F job files me given) k stage = own-source.table ∙ sym (entries-are c) in
        let agree : AgreeOn job files (transfer_at job k stage) me (global_table x) (rank_entries R F job files me (arrivals R F job files me given) k stage) =
        ((λ i j e. ap (λ t. t i j) entries), (λ q i j l e. ap (λ t. t i j) entries)) in
        let goes = between c x.map g.arriving.vector.map source-map (shaped.0 ∙ onto-is.map) in
        let goes_onto = between c x.map onto.map source-map onto-is.map in
        record {
          dense = dense;
          sent = x;
          sent_is = subst (λ s. IsCellSource pieces s x) (sym from) at;
          between = subst (IsBetween R F job files me pieces given k stage x.map g.arriving.vector.map) (sym kept) goes;
          sent_columns = x-columns;
          columns = shaped.1 ∙ onto-is.columns;
          entries = agree;
          mode = by ∙ mode_is ∙ sym (ap (λ t. t.mode) target-is);
          table =
              sym (cells-are-begun R F job files k stage me (arrivals R F job files me given) plan x onto g.arriving.vector dense goes_onto.serves agree (sym (ap (λ t. t.old) target-is))
              (rows ∙ (λ i. after_table R ((mode_is ∙ sym (ap (λ t. t.mode) target-is)) i) (global_table onto) (own_rows plan x))));
        }
