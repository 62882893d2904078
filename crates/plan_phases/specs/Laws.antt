-- The laws of a rank's book.
use Rattle.std.specs.Prelude.{◌≡◌, ℕ, ◌<◌, true, List, [], length, map, Some}
use Rattle.tables.specs.Indices.{AreDistinct, stands}
use Rattle.crs_graph.specs.ColumnMaps.{IsColumnList}
use Rattle.scalar_laws.specs.Semiring.{Semiring}
use Rattle.scalar_laws.specs.Conversions.{Conversions}
use Rattle.mm_text.specs.Reading.{File}
use Rattle.peers.specs.Protocols.{Letter}
use Rattle.rank_phases.specs.Stages.{Stage, CanEnter, absorbing, beginning, entering}
use Rattle.model_defs.specs.declared.job.Job.{Job}
use Rattle.model_defs.specs.declared.phase.About.{About}
use Rattle.model_defs.specs.declared.phase.Plan.TheVariants.{ColumnPlan, RowPlan}
use Rattle.model_defs.specs.Fitting.{IsFitting}
use Rattle.model_defs.specs.Machine.{job_protocol}
use Rattle.model_defs.specs.Phases.{phases}
use Rattle.model_defs.specs.Maps.{list_of, owner_rank}
use Rattle.model_defs.specs.Plans.{rank_columns, rank_rows, remote}
use Rattle.model_defs.specs.Shapes.{shape}
use Rattle.model_defs.specs.Valid.{IsValid}
use Rattle.rank_plans.specs.Books.{Book}
use Rattle.rank_stages.specs.JobStages.{IsJobStage, about_at}
use Rattle.rank_stages.specs.LetterLaws.{sends_numbers}
use Rattle.rank_stages.specs.Views.{View}
use Rattle.value_phases.specs.ValuePhases.{HasValuePhases, IsStructured}
use Rattle.plan_phases.specs.BookStages.{IsBookStage, with_book}
use Rattle.plan_phases.specs.BookCalls.{AreMade, IsPlanList}

-- a book of rank p without maps and plans
abbrev pub empty_book : Job → ℕ → Book
empty_book job p = record { me = p; ranks = job.ranks; maps = []; plans = [] }

-- two views have the same of maps and plans
pub record HasSameSlices {S : Type 0} (a b : View S) : Type 0 where
  pub directory : a.directory ≡ b.directory
  pub asked : a.asked ≡ b.asked
  pub owners : a.owners ≡ b.owners
  pub own : a.own ≡ b.own
  pub told : a.told ≡ b.told

module _ {S : Type 0} (R : Semiring S) (F : Conversions S) where
  -- Whatever the rank keeps of values, it begins with such a book.
  abbrev pub BooksBegin : Type 0
  BooksBegin =
      (job : Job) (files : List File) (p : ℕ) (view : View S) → IsValid job → IsFitting job files → HasValuePhases job → p < job.ranks
      → IsBookStage R F job files (empty_book job p)
      (record (with_book view (empty_book job p)) { own = λ plan q. remote job files plan p q })
      (beginning (job_protocol R F job files) (length (phases job)) p)

  -- A phase that sends numbers, or the end, is entered: where the rank stands so, its book stays that of the rank.
  abbrev pub BooksPassNumbers : Type 0
  BooksPassNumbers =
      (job : Job) (files : List File) (b : Book) (view new : View S) (s : Stage) (phase : ℕ) → IsBookStage R F job files b view s → CanEnter s phase
      → ((about : About) → about_at job phase ≡ Some about → sends_numbers about ≡ true) → AreMade job b s.entered
      → HasSameSlices view new → IsJobStage R F job files new (entering s)
      → IsBookStage R F job files b new (entering s)

  -- So it is where letters of numbers are absorbed, and where only values are made.
  abbrev pub BooksStay : Type 0
  BooksStay =
      (job : Job) (files : List File) (b : Book) (view new : View S) (s : Stage) (letters : List Letter) → IsBookStage R F job files b view s
      → HasSameSlices view new → IsJobStage R F job files new (absorbing s letters)
      → IsBookStage R F job files b new (absorbing s letters)

-- The column map of a matrix is a list of its column plan, where the columns that its domain lacks are listed by their owners.
abbrev pub ColumnMapsAreLists : Type 0
ColumnMapsAreLists =
    (job : Job) (files : List File) (k p : ℕ) (list : List ℕ) → IsValid job → IsFitting job files → IsStructured job k → p < job.ranks
    → IsColumnList (list_of job (shape job k).domain p) (rank_columns job files k p) (map (owner_rank job (shape job k).domain) (rank_columns job files k p)) list
    → AreDistinct list → ((g : ℕ) → stands g list ≡ stands g (rank_columns job files k p))
    → IsPlanList job files (ColumnPlan k) p list

-- The rows of a rank's part, ascending, are one of its row plan.
abbrev pub RowsAreLists : Type 0
RowsAreLists =
    (job : Job) (files : List File) (k p : ℕ) → IsValid job → IsStructured job k → IsPlanList job files (RowPlan k) p (rank_rows job files k p)
