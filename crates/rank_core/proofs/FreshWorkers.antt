-- A worker that entered no phase.
use Rattle.std.proofs.Common.{◌≡◌, ℕ, List, [], length, None, Some, refl, sym, ap, ◌∙◌, subst, arith}
use Rattle.std.specs.Prelude.{slice_get}
use Rattle.scalar_laws.specs.Semiring.{Semiring}
use Rattle.scalar_laws.specs.Conversions.{Conversions}
use Rattle.tables.specs.Tables.{nowhere}
use Rattle.mm_text.specs.Reading.{File}
use Rattle.outside.specs.declared.name.Name.{Name}
use Rattle.rank_phases.specs.Stages.{beginning}
use Rattle.model_defs.specs.declared.job.Job.{Job}
use Rattle.model_defs.specs.Machine.{job_protocol}
use Rattle.model_defs.specs.Makers.{value_count}
use Rattle.model_defs.specs.Phases.{phases}
use Rattle.model_defs.specs.Plans.{remote}
use Rattle.model_defs.specs.ShapeLists.{at_list}
use Rattle.model_defs.specs.Shapes.{shape}
use Rattle.rank_stages.specs.Views.{View}
use Rattle.plan_phases.specs.BookStages.{IsBookStage, with_book}
use Rattle.plan_phases.specs.Laws.{empty_book}
use Rattle.plan_phases.proofs.Passing.{books_begin}
use Rattle.value_phases.specs.ValuePhases.{HasValuePhases}
use Rattle.rank_pieces.specs.declared.pieces.Piece.{Piece}
use Rattle.rank_pieces.specs.Inputs.{IsRankInput}
use Rattle.rank_core.specs.declared.worker.JobWorker.{JobWorker}
use Rattle.rank_core.specs.Counts.{count_of}
use Rattle.rank_core.specs.Results.{IsEntriesGiven}
use Rattle.rank_core.specs.Workers.{IsJobWorker}

module _ {S : Type 0} (R : Semiring S) (F : Conversions S) (worker : JobWorker S) (files : List File) (input : IsRankInput F worker.job.value files worker.me worker.share)
    (phased : HasValuePhases worker.job.value) where
  abbrev job : Job
  job = worker.job.value

  -- whatever it keeps of values
  abbrev bare : View S
  bare = record {
    values = λ v. None;
    directory = λ m g. None;
    asked = λ plan q. [];
    owners = λ plan g. None;
    own = λ plan q. [];
    told = λ plan q. [];
    gathered = λ k t. nowhere;
  }

  abbrev view : View S
  view = record (with_book bare (empty_book job worker.me)) { own = λ plan q. remote job files plan worker.me q }

  pub begins : at_list worker.shapes.items ≡ shape worker.job.value → length worker.shapes.items ≡ value_count worker.job.value → worker.phases.items ≡ phases worker.job.value
      → worker.phase_count ≡ length worker.phases.items → worker.values.items ≡ [] → worker.book ≡ empty_book worker.job.value worker.me → worker.making ≡ None
      → ((n : Name) → count_of worker.counts n ≡ None)
      → IsJobWorker R F worker (beginning (job_protocol R F worker.job.value files) (length (phases worker.job.value)) worker.me)
  begins shapes count list many none book no_making no_counts = record {
    files = files;
    view = view;
    worker_of = record { input = input; rank = refl; shapes = shapes; shape_count = count; phase_list = list; phase_count = many ∙ ap length list };
    book =
        subst (λ b. IsBookStage R F job files b view (beginning (job_protocol R F job files) (length (phases job)) worker.me)) (sym book)
        (books_begin R F job files worker.me bare input.valid input.fitting phased input.rank);
    values = record { many = ap length none; each = λ v p at. absurd (nothing v p at) };
    making = no_making;
    counts = λ n to. subst (IsEntriesGiven [] n) (sym (no_counts n)) refl;
  }
    where
      nothing : (v : ℕ) (p : Piece S) → slice_get worker.values.items v ≡ Some p → ⊥
      nothing v p at = let bad : None ≡ Some p = sym (ap (λ xs. slice_get xs v) none) ∙ at in absurd (cc)
