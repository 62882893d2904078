-- What a rank is asked in the phases in which plans are made, and when it can be asked it.
use Rattle.std.specs.Prelude.{◌≡◌, ℕ, suc, ◌<◌, ◌==◌, true, false, not, filter, List, Some, is_some}
use Rattle.tables.specs.Indices.{AreDistinct, stands}
use Rattle.scalar_laws.specs.Semiring.{Semiring}
use Rattle.scalar_laws.specs.Conversions.{Conversions}
use Rattle.mm_text.specs.Reading.{File}
use Rattle.outside.specs.declared.name.Name.{Name}
use Rattle.rank_phases.specs.Stages.{Stage, CanAbsorb, CanEnter, HasAbsorbed}
use Rattle.model_defs.specs.declared.job.Job.{Job}
use Rattle.model_defs.specs.declared.phase.About.{About}
use Rattle.model_defs.specs.declared.phase.About.TheVariants.{SharePlan}
use Rattle.model_defs.specs.declared.phase.Plan.{Plan}
use Rattle.model_defs.specs.Letters.{entries_about}
use Rattle.model_defs.specs.Plans.{owns, rank_list_by, remote}
use Rattle.rank_plans.specs.Books.{Book, made_of}
use Rattle.rank_stages.specs.JobStages.{HasLeft, about_at}
use Rattle.rank_stages.specs.LetterLaws.{sends_numbers}
use Rattle.rank_stages.specs.OwnerLaws.{plan_about}
use Rattle.rank_stages.specs.Views.{View}
use Rattle.value_phases.specs.ValuePhases.{is_of_structure}
use Rattle.plan_phases.specs.BookStages.{IsBookStage}

-- the plans between maps of all phases that were entered were made
abbrev pub AreMade : Job → Book → ℕ → Type 0
AreMade job b entered = (n : ℕ) (plan : Plan) → about_at job n ≡ Some (SharePlan plan) → is_of_structure plan ≡ false → n < entered → is_some (made_of b plan) ≡ true

module _ {S : Type 0} (R : Semiring S) (F : Conversions S) (job : Job) (files : List File) (b : Book) (about : About) where
  -- The rank of the book can enter a phase that is about a map or a plan. Of a plan of a structure its list is given.
  pub record IsEnteringBook (list : List ℕ) : Type 0 where
    pub view : View S
    pub stage : Stage
    pub phase : ℕ
    pub kept : IsBookStage R F job files b view stage
    pub can_enter : CanEnter stage phase
    pub is : about_at job phase ≡ Some about
    pub plain : sends_numbers about ≡ false
    pub made : AreMade job b stage.entered
    pub listed : (plan : Plan) → plan_about about ≡ Some plan → is_of_structure plan ≡ true → list ≡ rank_list_by job files plan stage.rank

  -- It entered such a phase last, and makes its letter to another rank.
  pub record IsSendingBook (to : ℕ) : Type 0 where
    pub view : View S
    pub stage : Stage
    pub phase : ℕ
    pub kept : IsBookStage R F job files b view stage
    pub here : suc phase ≡ stage.entered
    pub is : about_at job phase ≡ Some about
    pub plain : sends_numbers about ≡ false
    pub known : to < job.ranks
    pub other : (to == stage.rank) ≡ false

  -- It absorbs a letter of another rank, which has the entries of the job's letter as words.
  pub record IsAbsorbingBook (from : ℕ) (words : List ℕ) : Type 0 where
    pub view : View S
    pub stage : Stage
    pub name : Name
    pub bytes : List ℕ
    pub kept : IsBookStage R F job files b view stage
    pub can_absorb : CanAbsorb stage name bytes
    pub is : about_at job name.phase ≡ Some about
    pub plain : sends_numbers about ≡ false
    pub sender : name.from ≡ from
    pub known : from < job.ranks
    pub other : (from == stage.rank) ≡ false
    pub words_are : (k : ℕ) → words ≡ entries_about job files k about from stage.rank

  -- All letters of the phase that it entered last came.
  pub record IsLeavingBook : Type 0 where
    pub view : View S
    pub stage : Stage
    pub phase : ℕ
    pub kept : IsBookStage R F job files b view stage
    pub here : suc phase ≡ stage.entered
    pub is : about_at job phase ≡ Some about
    pub all_absorbed : HasAbsorbed stage stage.entered

-- A plan of a structure was shared, and all letters of its phase came.
pub record IsSharedBook {S : Type 0} (R : Semiring S) (F : Conversions S) (job : Job) (files : List File) (b : Book) (plan : Plan) : Type 0 where
  pub view : View S
  pub stage : Stage
  pub phase : ℕ
  pub kept : IsBookStage R F job files b view stage
  pub is : about_at job phase ≡ Some (SharePlan plan)
  pub left : HasLeft stage phase
  pub of_structure : is_of_structure plan ≡ true

-- A list of a rank by a plan of a structure: it has the indices of the plan, each once, and those that another rank owns in the
-- plan's order.
pub record IsPlanList (job : Job) (files : List File) (plan : Plan) (p : ℕ) (list : List ℕ) : Type 0 where
  pub listed : (g : ℕ) → stands g list ≡ stands g (rank_list_by job files plan p)
  pub distinct : AreDistinct list
  pub order : (q : ℕ) → q < job.ranks → filter (owns job files plan q) (filter (λ g. not (owns job files plan p g)) list) ≡ remote job files plan p q
