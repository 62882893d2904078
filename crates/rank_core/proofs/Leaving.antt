-- How a worker leaves the value that it makes when it is about to enter a phase, and what it needs of the next one.
use Rattle.std.proofs.Common.{◌≡◌, ℕ, zero, suc, ◌<◌, ◌≤◌, inl, inr, Bool, true, false, List, [], length, Option, None, Some, refl, sym, ap, ◌∙◌, subst, arith}
use Rattle.std.specs.Prelude.{slice_get}
use Rattle.std.specs.Option.{option_map}
use Rattle.std.proofs.lemmas.Option.{slice_get_within}
use Rattle.scalar_laws.specs.Semiring.{Semiring}
use Rattle.scalar_laws.specs.Conversions.{Conversions}
use Rattle.tables.specs.Tables.{Table}
use Rattle.mm_text.specs.Reading.{File}
use Rattle.crs_matrix.specs.Rows.{RowCells, row_table}
use Rattle.outside.specs.declared.name.Name.{Name}
use Rattle.peers.specs.Protocols.{Letter, stands_in}
use Rattle.rank_phases.specs.Stages.{Stage, CanEnter, HasAbsorbed}
use Rattle.model_defs.specs.declared.job.Job.{Job}
use Rattle.model_defs.specs.declared.job.MatrixSpec.{MatrixSpec}
use Rattle.model_defs.specs.declared.phase.About.TheVariants.{SharePlan}
use Rattle.model_defs.specs.declared.phase.Phase.{Phase}
use Rattle.model_defs.specs.Given.{dealt_part}
use Rattle.model_defs.specs.Machine.{piece}
use Rattle.model_defs.specs.Makers.{GivenMatrix, Maker, maker_of, value_count}
use Rattle.model_defs.specs.Phases.{phases, send_phase}
use Rattle.model_defs.specs.Plans.{rank_rows}
use Rattle.model_defs.specs.Shapes.{is_dense, is_split_sort, shape}
use Rattle.model_defs.specs.declared.phase.Plan.TheVariants.{ColumnPlan, RowPlan}
use Rattle.multivector.specs.Vectors.{VectorState}
use Rattle.rank_values.specs.Vectors.{global_table}
use Rattle.rank_plans.specs.Books.{Book}
use Rattle.rank_stages.specs.JobStages.{HasLeft, IsOpen, about_at, gathered_so_far}
use Rattle.rank_stages.specs.Views.{View}
use Rattle.plan_phases.specs.BookCalls.{IsSharedBook}
use Rattle.value_phases.specs.ValueKinds.{HasValueKinds, IsGivenSplit}
use Rattle.value_phases.specs.ValuePhases.{HasValuePhases, is_of_structure}
use Rattle.value_phases.specs.ValueStages.{HasValueStages}
use Rattle.rank_pieces.specs.declared.pieces.Piece.{Piece}
use Rattle.rank_pieces.specs.Inputs.{IsRankInput}
use Rattle.rank_pieces.specs.Pieces.{AreOwnPieces, IsMadeHere}
use Rattle.rank_makings.specs.declared.coming.Coming.{Coming}
use Rattle.rank_makings.specs.declared.coming.Coming.TheVariants.{Cells, Rows}
use Rattle.rank_makings.specs.declared.coming.CellsComing.{CellsComing}
use Rattle.rank_makings.specs.declared.coming.RowsComing.{RowsComing}
use Rattle.rank_makings.specs.Beginnings.{CanComplete, CanFinish, IsAt}
use Rattle.rank_makings.specs.Comings.{AreCellsComing, AreHeard, HaveCome, IsComing, IsFilled}
use Rattle.rank_core.specs.declared.makings.Making.{Making}
use Rattle.rank_core.specs.declared.makings.Making.TheVariants.{Arriving, Arrived, Filled}
use Rattle.rank_core.specs.declared.worker.JobWorker.{JobWorker}
use Rattle.rank_core.specs.Leaving.{CanLeave}
use Rattle.rank_core.specs.Makings.{IsMakingIn, IsPhaseOf, IsSending, IsStructuring}
use Rattle.rank_core.specs.Pieces.{made_count}
use Rattle.rank_core.specs.Workers.{IsJobWorker, IsMakingAt}
use Rattle.rank_core.proofs.Counted.{at-place, count-at, count-end, count-most}
use Rattle.rank_core.proofs.Turns.{first-after, leave-dense, leave-none, leave-sparse, no-more, of-sending, passed-here, sending-phase, sent-of}

module _ {S : Type 0} (R : Semiring S) (F : Conversions S) (worker : JobWorker S) (s : Stage) (stands : IsJobWorker R F worker s) (phase : ℕ) (can : CanEnter s phase)
    (phased : HasValuePhases worker.job.value) (staged : HasValueStages worker.job.value) (kinds : HasValueKinds worker.job.value) where
  abbrev job : Job
  job = worker.job.value

  abbrev k : ℕ
  k = length worker.values.items

  abbrev me : ℕ
  me = worker.me

  -- all letters of the phases that were entered came
  pub heard : (n : ℕ) → n ≤ s.entered → AreHeard worker.job.value stands.files worker.me n s.absorbed
  heard n low = λ m named to before.
      let next = can.next in
      can.all_absorbed m (ap (λ p. stands_in p.names m) stands.book.stage.protocol ∙ named) (to ∙ sym stands.worker_of.rank) (omega (arith, low, before, next))

  pub left : (n : ℕ) → n < s.entered → HasLeft s n
  left n low = record {
    entered = low;
    absorbed = λ m named to before. let next = can.next in can.all_absorbed m named to (omega (arith, low, before, next));
  }

  pub own : AreOwnPieces R F worker.job.value stands.files worker.me s.absorbed (length worker.values.items) worker.values.items
  own = subst (λ n. AreOwnPieces R F job stands.files me s.absorbed n worker.values.items) (sym stands.values.many) stands.values

  pub at-value : length worker.values.items < value_count worker.job.value
      → IsAt R F worker.job.value stands.files worker.me worker.share worker.shapes.items worker.values.items s.absorbed (length worker.values.items)
  at-value below = record {
    input = stands.worker_of.input;
    phased = phased;
    kinds = kinds;
    shapes_are = stands.worker_of.shapes;
    below = below;
    pieces_are = own;
  }

  -- what came in the phase that was left
  module _ (m stage : ℕ) (last : suc m ≡ s.entered) (sends : IsSending worker.job.value m (length worker.values.items) stage) where
    pub gathered-so : stands.view.gathered (length worker.values.items) stage ≡ gathered_so_far R F worker.job.value stands.files worker.me s.absorbed (length worker.values.items) stage
    gathered-so =
        let sent = sent-of job phased m k stage sends in
        let open_so : IsOpen job s.entered k = record { stage = stage; phase = m; sends = sent; not_left = omega arith } in
        stands.book.stage.gathered k stage m sent (omega arith) open_so
        ∙ ap (λ p. gathered_so_far R F job stands.files p s.absorbed k stage) stands.worker_of.rank

    pub have-come : (c : CellsComing S) → AreCellsComing R F worker.job.value stands.files worker.me worker.values.items s.absorbed (length worker.values.items) stage
        (stands.view.gathered (length worker.values.items) stage) c
        → HaveCome R F worker.job.value stands.files worker.me worker.values.items s.absorbed (length worker.values.items) stage c.arriving.vector
    have-come c coming = record { map = coming.between.target_is; columns = coming.columns; table = sym coming.table ∙ gathered-so }

  -- ---- the value is left

  module _ (above : length worker.values.items < made_count worker.job.value (suc s.entered)) where
    below : length worker.values.items < value_count worker.job.value
    below = let most = count-most job phased (suc s.entered) in omega arith

    abbrev Leaves : Option (Making S) → Type 0
    Leaves making = CanLeave R F worker.job.value stands.files worker.me worker.share worker.shapes.items worker.values.items s.absorbed worker.book (length worker.values.items) making

    shared : (m : ℕ) → suc m ≡ s.entered → (n : ℕ) (x : Phase) → slice_get (phases worker.job.value) n ≡ Some x → x.value ≡ length worker.values.items → (plan : _) → x.about ≡ SharePlan plan
        → is_of_structure plan ≡ true → IsSharedBook R F worker.job.value stands.files worker.book plan
    shared m last n x at value plan about of_structure =
        let low = no-more job phased m k n (subst (λ e. k < made_count job (suc e)) (sym last) above) (record { phase = x; at = at; value = value }) in
        record {
          view = stands.view;
          stage = s;
          phase = n;
          kept = stands.book;
          is = ap (option_map (λ p. p.about)) at ∙ ap (λ a. Some a) about;
          left = left n (omega arith);
          of_structure = of_structure;
        }

    leaves : (m : ℕ) → suc m ≡ s.entered → IsPhaseOf worker.job.value m (length worker.values.items)
        → (making : Option (Making S)) → IsMakingIn R F worker.job.value stands.files worker.me worker.values.items s.absorbed m (length worker.values.items) stands.view.gathered making → Leaves making
    leaves m last of None is = tt
    leaves m last of (Some (Arriving (Cells c))) (stage, (sends, coming)) =
        let higher = subst (λ e. k < made_count job (suc e)) (sym last) above in (
          c.arriving.vector,
          refl,
          record {
            at = at-value below;
            dense = coming.dense;
            last = stage;
            last_is = leave-dense job phased staged m k stage sends higher;
            phase = m;
            sends = sent-of job phased m k stage sends;
            heard = heard (suc m) (omega arith);
            have = have-come m stage last sends c coming;
          },
        )
    leaves m last of (Some (Arriving (Rows c))) (stage, (sends, coming)) =
        absurd (leave-sparse job phased staged m k stage sends coming.sparse (subst (λ e. k < made_count job (suc e)) (sym last) above))
    leaves m last of (Some (Arrived v)) is = absurd is
    leaves m last of (Some (Filled fill)) (x, filled) =
        let plan = phased.column_plans k x.after.structured in
        record {
          at = at-value below;
          structured = x.after.structured;
          phase = m;
          sent = x.after.sent;
          before = λ v t n low sends. phased.left m v t n of.phase of.at (subst (λ w. v < w) (sym of.value) low) sends;
          heard = heard m (omega arith);
          me_is = stands.book.me ∙ stands.worker_of.rank;
          columns = shared m last plan.0 plan.1 plan.2 plan.3 (ColumnPlan k) plan.4 refl;
          rows = λ split. let other = phased.row_plans k x.after.structured split in shared m last other.0 other.1 other.2 other.3 (RowPlan k) other.4 refl;
          filled = filled;
        }

    pub can-leave : Leaves worker.making
    can-leave = by s.entered refl
      where
        by : (e : ℕ) → s.entered ≡ e → Leaves worker.making
        by zero e = subst Leaves (sym (subst (IsMakingAt R F worker stands.files s stands.view.gathered) e stands.making)) tt
        by (suc m) e = elim (at-place (phases job) m) [
          | inl (a, at) ↦
              leaves m (sym e) (record { phase = a; at = at; value = sym (count-at job phased m a at) ∙ ap (made_count job) (sym e) ∙ sym stands.values.many }) worker.making
              (subst (IsMakingAt R F worker stands.files s stands.view.gathered) e stands.making)
          | inr (none, long) ↦
              let all = count-end job phased m long in
              let many : k ≡ made_count job (suc m) = stands.values.many ∙ ap (made_count job) e in
              let most = count-most job phased (suc s.entered) in absurd (omega arith)
        ]

    -- without anything in the making nothing was entered
    pub none-first : worker.making ≡ None → s.entered ≡ 0
    none-first none = by s.entered refl
      where
        by : (e : ℕ) → s.entered ≡ e → s.entered ≡ 0
        by zero e = e
        by (suc m) e = elim (at-place (phases job) m) [
          | inl (a, at) ↦
              let is = subst (IsMakingIn R F job stands.files me worker.values.items s.absorbed m k stands.view.gathered) none (subst (IsMakingAt R F worker stands.files s stands.view.gathered) e stands.making) in
              absurd (leave-none job phased m k (record { phase = a; at = at; value = sym (count-at job phased m a at) ∙ ap (made_count job) (sym e) ∙ sym stands.values.many }) is.0 is.1
              (subst (λ n. k < made_count job (suc n)) e above))
          | inr (none_there, long) ↦
              let all = count-end job phased m long in
              let many : k ≡ made_count job (suc m) = stands.values.many ∙ ap (made_count job) e in
              let most = count-most job phased (suc s.entered) in absurd (omega arith)
        ]
