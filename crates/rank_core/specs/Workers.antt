-- Where the worker of a rank of a job stands.
use Rattle.std.specs.Prelude.{◌≡◌, ℕ, zero, suc, List, length, None}
use Rattle.scalar_laws.specs.Semiring.{Semiring}
use Rattle.scalar_laws.specs.Conversions.{Conversions}
use Rattle.tables.specs.Tables.{Table}
use Rattle.mm_text.specs.Reading.{File}
use Rattle.outside.specs.declared.name.Name.{Name}
use Rattle.rank_phases.specs.Stages.{Stage}
use Rattle.model_defs.specs.Makers.{value_count}
use Rattle.model_defs.specs.Phases.{phases}
use Rattle.model_defs.specs.ShapeLists.{at_list}
use Rattle.model_defs.specs.Shapes.{shape}
use Rattle.rank_stages.specs.Views.{View}
use Rattle.plan_phases.specs.BookStages.{IsBookStage}
use Rattle.plan_phases.specs.BookCalls.{AreMade}
use Rattle.rank_pieces.specs.Inputs.{IsRankInput}
use Rattle.rank_pieces.specs.Pieces.{AreOwnPieces}
use Rattle.rank_core.specs.declared.counts.EntryCounts.{EntryCounts}
use Rattle.rank_core.specs.declared.worker.JobWorker.{JobWorker}
use Rattle.rank_core.specs.Counts.{count_of}
use Rattle.rank_core.specs.Makings.{IsMakingFor, IsMakingIn}
use Rattle.rank_core.specs.Pieces.{made_count}
use Rattle.rank_core.specs.Results.{IsEntriesGiven}

-- The counts are those of the letters that were absorbed.
abbrev pub HasCounts : EntryCounts → Stage → Type 0
HasCounts counts s = (n : Name) → n.to ≡ s.rank → IsEntriesGiven s.absorbed n (count_of counts n)

module _ {S : Type 0} (R : Semiring S) (F : Conversions S) (worker : JobWorker S) where
  -- The worker is that of a rank of a job, and has lists of what follows from the job alone.
  pub record IsWorkerOf (files : List File) (p : ℕ) : Type 0 where
    pub input : IsRankInput F worker.job.value files worker.me worker.share
    pub rank : p ≡ worker.me
    pub shapes : at_list worker.shapes.items ≡ shape worker.job.value
    pub shape_count : length worker.shapes.items ≡ value_count worker.job.value
    pub phase_list : worker.phases.items ≡ phases worker.job.value
    pub phase_count : worker.phase_count ≡ length (phases worker.job.value)

  -- What is being made, by how many phases were entered: nothing before the first one and at the end.
  abbrev pub IsMakingAt : List File → Stage → (ℕ → ℕ → Table S) → ℕ → Type 0
  IsMakingAt files s gathered zero = worker.making ≡ None
  IsMakingAt files s gathered (suc n) = IsMakingIn R F worker.job.value files worker.me worker.values.items s.absorbed n (length worker.values.items) gathered worker.making

  -- It keeps what the letters given to it say: its book, its pieces of the values that are made by now, and what is being made.
  pub record IsJobWorker (s : Stage) : Type 0 where
    pub files : List File
    pub view : View S
    pub worker_of : IsWorkerOf files s.rank
    pub book : IsBookStage R F worker.job.value files worker.book view s
    pub values : AreOwnPieces R F worker.job.value files worker.me s.absorbed (made_count worker.job.value s.entered) worker.values.items
    pub making : IsMakingAt files s view.gathered s.entered
    pub counts : HasCounts worker.counts s

  -- It finished the phase that it was in: all plans between maps of the phases that it entered were made.
  pub record IsLeaving (s : Stage) : Type 0 where
    pub stands_so : IsJobWorker s
    pub plans : AreMade worker.job.value worker.book s.entered

  -- It is about to enter the next phase: it has all plans of the phases before, all pieces of the values before that of the next
  -- phase, and what is needed of this one.
  pub record IsReady (s : Stage) : Type 0 where
    pub files : List File
    pub view : View S
    pub worker_of : IsWorkerOf files s.rank
    pub book : IsBookStage R F worker.job.value files worker.book view s
    pub plans : AreMade worker.job.value worker.book s.entered
    pub values : AreOwnPieces R F worker.job.value files worker.me s.absorbed (made_count worker.job.value (suc s.entered)) worker.values.items
    pub making : IsMakingFor R F worker.job.value files worker.me worker.values.items s.absorbed s.entered (length worker.values.items) worker.making
    pub counts : HasCounts worker.counts s
