-- Rows of a matrix that come, as they are begun.
use Rattle.std.proofs.Common.{◌≡◌, ℕ, true, false, List, Some, sym, ap, ◌∙◌, subst}
use Rattle.std.specs.Prelude.{is_some}
use Rattle.scalar_laws.specs.Semiring.{Semiring}
use Rattle.scalar_laws.specs.Conversions.{Conversions}
use Rattle.tables.specs.Tables.{nowhere}
use Rattle.map_core.specs.Plans.{PlanLists}
use Rattle.combine_modes.specs.declared.mode.Mode.{Mode}
use Rattle.combine_modes.specs.declared.mode.Mode.TheVariants.{Add}
use Rattle.crs_matrix.specs.Rows.{RowCells, row_table}
use Rattle.matrix_moves.specs.Arrivals.{after_table}
use Rattle.matrix_moves.specs.Sources.{own_rows}
use Rattle.mm_text.specs.Reading.{File}
use Rattle.peers.specs.Protocols.{Letter}
use Rattle.model_defs.specs.declared.job.Job.{Job}
use Rattle.model_defs.specs.Machine.{arrivals}
use Rattle.model_defs.specs.Makers.{maker_of}
use Rattle.model_defs.specs.Phases.{send_phase}
use Rattle.model_defs.specs.Shapes.{is_dense, shape}
use Rattle.model_defs.specs.Stages.{rank_entries}
use Rattle.model_defs.proofs.Placed.{entries_are_placed}
use Rattle.matrix_arrivals.specs.RowsBegun.{is_plain, onto}
use Rattle.matrix_arrivals.proofs.Begun.{plain-rows-are-added, rows-are-begun}
use Rattle.rank_pieces.specs.declared.pieces.Piece.{Piece}
use Rattle.rank_makings.specs.declared.coming.RowsComing.{RowsComing}
use Rattle.rank_makings.specs.Comings.{AreHeard, AreRowsComing, IsBetween, IsSentRows, first_gathered}

module _ {S : Type 0} (R : Semiring S) (F : Conversions S) (job : Job) (files : List File) (me : ℕ) (pieces : List (Piece S)) (given : List Letter) (k stage phase : ℕ)
    (sends : send_phase job k stage ≡ Some phase) (heard : AreHeard job files me phase given)
    (sparse : is_dense (shape job k).sort ≡ false) where
  -- rows that are combined with those of a matrix
  pub rows-begun-onto : (a old : RowCells S) (plan : PlanLists) (mode : Mode) (g : RowsComing S)
      → IsSentRows pieces g.source a
      → IsBetween R F job files me pieces given k stage a.rows old.rows plan
      → row_table a ≡ rank_entries R F job files me (arrivals R F job files me given) k stage
      → (onto R F job files me (arrivals R F job files me given) k stage).mode ≡ mode
      → row_table old ≡ (onto R F job files me (arrivals R F job files me given) k stage).old
      → g.arriving.plan ≡ plan → g.arriving.mode ≡ mode → g.arriving.fill.rows ≡ old.rows
      → row_table g.arriving.fill ≡ after_table R mode (row_table old) (own_rows plan a)
      → AreRowsComing R F job files me pieces given k stage (first_gathered R F job files me pieces given k stage) g
  rows-begun-onto a old plan mode g sent goes entries mode_is old_is kept by on table = record {
    sparse = sparse;
    sent = a;
    sent_is = sent;
    between =
        subst (IsBetween R F job files me pieces given k stage a.rows g.arriving.fill.rows) (sym kept)
        (subst (λ l. IsBetween R F job files me pieces given k stage a.rows l plan) (sym on) goes);
    entries = entries;
    placed = λ i j. ap (λ t. is_some (t i j)) entries ∙ entries_are_placed R F job files given me k stage phase goes.valid goes.fitting sends heard i j;
    mode = by ∙ sym mode_is;
    table =
        sym (rows-are-begun R F job files k stage me (arrivals R F job files me given) plan a old g.arriving.fill sparse goes.serves entries old_is
        (table ∙ (λ i. after_table R (sym mode_is i) (row_table old) (own_rows plan a))));
  }

  -- where nothing else is said they are added to no places
  pub rows-begun : is_plain (maker_of job k) ≡ true → (a empty : RowCells S) (plan : PlanLists) (g : RowsComing S)
      → IsSentRows pieces g.source a
      → IsBetween R F job files me pieces given k stage a.rows empty.rows plan
      → row_table a ≡ rank_entries R F job files me (arrivals R F job files me given) k stage
      → row_table empty ≡ nowhere
      → g.arriving.plan ≡ plan → g.arriving.mode ≡ Add → g.arriving.fill.rows ≡ empty.rows
      → row_table g.arriving.fill ≡ after_table R Add (row_table empty) (own_rows plan a)
      → AreRowsComing R F job files me pieces given k stage (first_gathered R F job files me pieces given k stage) g
  rows-begun plain a empty plan g sent goes entries none kept by on table =
      let added = plain-rows-are-added R F job files k stage me (arrivals R F job files me given) plain sparse in
      rows-begun-onto a empty plan Add g sent goes entries added.0 (none ∙ sym added.1) kept by on table
