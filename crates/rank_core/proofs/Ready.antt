-- A worker that is about to enter a phase.
use Rattle.std.proofs.Common.{◌≡◌, ℕ, zero, suc, ◌<◌, inl, inr, true, List, length, Option, None, Some, refl, sym, ap, ◌∙◌, subst, arith}
use Rattle.std.specs.Prelude.{slice_get}
use Rattle.scalar_laws.specs.Semiring.{Semiring}
use Rattle.scalar_laws.specs.Conversions.{Conversions}
use Rattle.mm_text.specs.Reading.{File}
use Rattle.rank_phases.specs.Stages.{Stage, CanEnter}
use Rattle.model_defs.specs.declared.job.Job.{Job}
use Rattle.model_defs.specs.declared.shape.Shape.{Shape}
use Rattle.model_defs.specs.Makers.{maker_of, value_count}
use Rattle.model_defs.specs.Phases.{phases}
use Rattle.value_phases.specs.ValueKinds.{HasValueKinds, IsOwnMatrix, is_own_matrix}
use Rattle.value_phases.specs.ValuePhases.{HasValuePhases}
use Rattle.value_phases.specs.ValueStages.{HasValueStages}
use Rattle.rank_pieces.specs.declared.pieces.Piece.{Piece}
use Rattle.rank_pieces.specs.Pieces.{AreOwnPieces}
use Rattle.rank_makings.specs.declared.coming.Coming.TheVariants.{Cells, Rows}
use Rattle.rank_makings.specs.Beginnings.{IsAt}
use Rattle.rank_core.specs.declared.makings.Making.{Making}
use Rattle.rank_core.specs.declared.makings.Making.TheVariants.{Arriving, Arrived, Filled}
use Rattle.rank_core.specs.declared.worker.JobWorker.{JobWorker}
use Rattle.rank_core.specs.Leaving.{CanGoOn, IsLeft, IsNext}
use Rattle.rank_core.specs.Makings.{IsMakingFor, IsMakingIn}
use Rattle.rank_core.specs.Pieces.{count_before, made_count}
use Rattle.rank_core.specs.Workers.{IsJobWorker, IsLeaving, IsMakingAt, IsReady}
use Rattle.rank_core.proofs.Counted.{at-place, count-at}
use Rattle.rank_core.proofs.Finishing.{count-made, first-behind}
use Rattle.rank_core.proofs.Leaving.{at-value, gathered-so}
use Rattle.rank_core.proofs.NextMakings.{next-same}
use Rattle.rank_core.proofs.Nexts.{begun-for}
use Rattle.rank_core.proofs.Turns.{sent-of}

module _ {S : Type 0} (R : Semiring S) (F : Conversions S)
    (worker : JobWorker S) (s : Stage) (leaving : IsLeaving R F worker s) (phase : ℕ) (can : CanEnter s phase)
    (phased : HasValuePhases worker.job.value) (staged : HasValueStages worker.job.value) (kinds : HasValueKinds worker.job.value)
    (count : ℕ) (count_is : count ≡ count_before worker.job.value (slice_get worker.phases.items phase)) where
  abbrev stands : IsJobWorker R F worker s
  stands = leaving.stands_so

  abbrev job : Job
  job = worker.job.value

  count-so : count ≡ made_count worker.job.value (suc s.entered)
  count-so =
      count_is
      ∙ ap (λ xs. count_before job (slice_get xs phase)) stands.worker_of.phase_list
      ∙ ap (λ n. count_before job (slice_get (phases job) n)) (sym can.next)

  -- what is in the making is what the next phase needs
  next-making : (new : List (Piece S)) (m next : Option (Making S)) → IsLeft worker.values.items new count worker.making m → length new ≡ count
      → IsNext R F worker.job.value stands.files worker.me new s.absorbed count m next
      → IsMakingFor R F worker.job.value stands.files worker.me new s.absorbed s.entered (length new) next
  next-making new m next left many is = elim left [
    | inl (more, none) ↦
        subst (λ n. IsMakingFor R F job stands.files worker.me new s.absorbed s.entered n next) (sym many)
        (begun-for R F job phased kinds stands.files worker.me new s.absorbed s.entered count
        (first-behind R F worker s stands phase can phased staged kinds count count_is more count more) count-so next (subst (λ o. IsNext R F job stands.files worker.me new s.absorbed count o next) none is))
    | inr (there, same, was) ↦
        subst (λ xs. IsMakingFor R F job stands.files worker.me xs s.absorbed s.entered (length xs) next) (sym same)
        (next-same R F worker s stands phase can phased staged kinds (there ∙ count-so) next
        (subst (λ n. IsNext R F job stands.files worker.me worker.values.items s.absorbed n worker.making next) (sym there)
        (subst (λ xs. IsNext R F job stands.files worker.me xs s.absorbed count worker.making next) same (subst (λ o. IsNext R F job stands.files worker.me new s.absorbed count o next) was is))))
  ]

  -- what is taken can be made of
  taken : (m : ℕ) → suc m ≡ s.entered → length worker.values.items < value_count worker.job.value → (making : Option (Making S))
      → IsMakingIn R F worker.job.value stands.files worker.me worker.values.items s.absorbed m (length worker.values.items) stands.view.gathered making
      → CanGoOn R F worker.job.value stands.files worker.me worker.share worker.shapes.items worker.values.items s.absorbed (length worker.values.items) making
  taken m last low None is = λ own. at-value R F worker s stands phase can phased staged kinds low
  taken m last low (Some (Arriving (Cells c))) is = tt
  taken m last low (Some (Arriving (Rows c))) (stage, (sends, coming)) = record {
    at = at-value R F worker s stands phase can phased staged kinds low;
    sparse = coming.sparse;
    sender = kinds.senders (length worker.values.items) stage m (sent-of job phased m (length worker.values.items) stage sends);
    stage = stage;
    known = coming.between.known;
    have = record { rows = coming.between.target_is; table = sym coming.table ∙ gathered-so R F worker s stands phase can phased staged kinds m stage last sends };
  }
  taken m last low (Some (Arrived v)) is = absurd is
  taken m last low (Some (Filled fill)) is = tt

  own-at : (new : List (Piece S)) → AreOwnPieces R F worker.job.value stands.files worker.me s.absorbed count new → is_own_matrix worker.job.value (maker_of worker.job.value count) ≡ true
      → IsAt R F worker.job.value stands.files worker.me worker.share worker.shapes.items new s.absorbed count
  own-at new own is = record {
    input = stands.worker_of.input;
    phased = phased;
    kinds = kinds;
    shapes_are = stands.worker_of.shapes;
    below = by (kinds.own count is);
    pieces_are = own;
  }
    where
      by : IsOwnMatrix job count → count < value_count job
      by (inl split) = split.structured.below
      by (inr sum) = sum.sum.made.structured.below

  pub can-go-on : (new : List (Piece S)) (m : Option (Making S)) → AreOwnPieces R F worker.job.value stands.files worker.me s.absorbed count new → IsLeft worker.values.items new count worker.making m
      → CanGoOn R F worker.job.value stands.files worker.me worker.share worker.shapes.items new s.absorbed count m
  can-go-on new m own left = elim left [
    | inl (more, none) ↦ subst (CanGoOn R F job stands.files worker.me worker.share worker.shapes.items new s.absorbed count) (sym none) (own-at new own)
    | inr (there, same, was) ↦
        subst (λ xs. CanGoOn R F job stands.files worker.me worker.share worker.shapes.items xs s.absorbed count m) (sym same)
        (subst (CanGoOn R F job stands.files worker.me worker.share worker.shapes.items worker.values.items s.absorbed count) (sym was)
        (stay there (subst (AreOwnPieces R F job stands.files worker.me s.absorbed count) same own)))
  ]
    where
      stay : length worker.values.items ≡ count → AreOwnPieces R F job stands.files worker.me s.absorbed count worker.values.items
          → CanGoOn R F job stands.files worker.me worker.share worker.shapes.items worker.values.items s.absorbed count worker.making
      stay there own_is = by s.entered refl
        where
          by : (e : ℕ) → s.entered ≡ e → CanGoOn R F job stands.files worker.me worker.share worker.shapes.items worker.values.items s.absorbed count worker.making
          by zero e =
              let none = subst (IsMakingAt R F worker stands.files s stands.view.gathered) e stands.making in
              subst (CanGoOn R F job stands.files worker.me worker.share worker.shapes.items worker.values.items s.absorbed count) (sym none) (own-at worker.values.items own_is)
          by (suc m) e = elim (at-place (phases job) m) [
            | inl (a, at) ↦
                let value : a.value ≡ length worker.values.items = sym (count-at job phased m a at) ∙ ap (made_count job) (sym e) ∙ sym stands.values.many in
                let low = subst (λ v. v < value_count job) value (phased.below m a at) in
                subst (λ n. CanGoOn R F job stands.files worker.me worker.share worker.shapes.items worker.values.items s.absorbed n worker.making) there
                (taken m (sym e) low worker.making (subst (IsMakingAt R F worker stands.files s stands.view.gathered) e stands.making))
            | inr (none, long) ↦ absurd (let next_is = can.next in let within = can.within in let many = stands.book.stage.phases in omega arith)
          ]

  -- as the code has it
  pub go-on-as : (new : JobWorker S) → new ≡ record worker { values = new.values; making = None } → (j : Job) (shapes : List Shape) (pieces : List (Piece S)) → j ≡ new.job.value
      → shapes ≡ new.shapes.items → pieces ≡ new.values.items → (m : Option (Making S))
      → AreOwnPieces R F worker.job.value stands.files worker.me s.absorbed count new.values.items → IsLeft worker.values.items new.values.items count worker.making m
      → CanGoOn R F j stands.files new.me new.share shapes pieces s.absorbed count m
  go-on-as new is j shapes pieces job_is shapes_are pieces_are m own left =
      subst (λ a. CanGoOn R F a stands.files new.me new.share shapes pieces s.absorbed count m) (sym (job_is ∙ ap (λ w. w.job.value) is))
      (subst (λ a. CanGoOn R F job stands.files a new.share shapes pieces s.absorbed count m) (sym (ap (λ w. w.me) is))
      (subst (λ a. CanGoOn R F job stands.files worker.me a shapes pieces s.absorbed count m) (sym (ap (λ w. w.share) is))
      (subst (λ a. CanGoOn R F job stands.files worker.me worker.share a pieces s.absorbed count m) (sym (shapes_are ∙ ap (λ w. w.shapes.items) is))
      (subst (λ a. CanGoOn R F job stands.files worker.me worker.share worker.shapes.items a s.absorbed count m) (sym pieces_are)
      (can-go-on new.values.items m own left)))))

  pub next-as : (new : JobWorker S) → new ≡ record worker { values = new.values; making = None } → (j : Job) (pieces : List (Piece S)) → j ≡ new.job.value → pieces ≡ new.values.items
      → (m next : Option (Making S)) → IsNext R F j stands.files new.me pieces s.absorbed count m next → IsNext R F worker.job.value stands.files worker.me new.values.items s.absorbed count m next
  next-as new is j pieces job_is pieces_are m next h =
      subst (λ a. IsNext R F job stands.files worker.me a s.absorbed count m next) pieces_are
      (subst (λ a. IsNext R F job stands.files a pieces s.absorbed count m next) (ap (λ w. w.me) is)
      (subst (λ a. IsNext R F a stands.files new.me pieces s.absorbed count m next) (job_is ∙ ap (λ w. w.job.value) is) h))

  pub ready-so : (new : JobWorker S) (m next : Option (Making S)) → new ≡ record worker { values = new.values; making = next }
      → AreOwnPieces R F worker.job.value stands.files worker.me s.absorbed count new.values.items
      → IsLeft worker.values.items new.values.items count worker.making m
      → IsNext R F worker.job.value stands.files worker.me new.values.items s.absorbed count m next
      → IsReady R F new s
  ready-so new m next is own left next_is =
      subst (λ w. IsReady R F w s) (sym is) (record {
        files = stands.files;
        view = stands.view;
        worker_of = record {
          input = stands.worker_of.input;
          rank = stands.worker_of.rank;
          shapes = stands.worker_of.shapes;
          shape_count = stands.worker_of.shape_count;
          phase_list = stands.worker_of.phase_list;
          phase_count = stands.worker_of.phase_count;
        };
        book = stands.book;
        plans = leaving.plans;
        values = subst (λ n. AreOwnPieces R F job stands.files worker.me s.absorbed n new.values.items) count-so own;
        making = next-making new.values.items m next left own.many next_is;
        counts = stands.counts;
      })
