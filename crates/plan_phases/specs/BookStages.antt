-- What a rank's book of maps and plans has, by the phases that the rank entered and the letters that it absorbed.
use Rattle.std.specs.Prelude.{◌≡◌, ℕ, suc, ◌<◌, true, false, List, [], Some, is_some}
use Rattle.scalar_laws.specs.Semiring.{Semiring}
use Rattle.scalar_laws.specs.Conversions.{Conversions}
use Rattle.map_core.specs.Layouts.{owner, stands}
use Rattle.map_core.specs.Plans.{PlanLists}
use Rattle.mm_text.specs.Reading.{File}
use Rattle.rank_phases.specs.Stages.{Stage}
use Rattle.model_defs.specs.declared.job.Job.{Job}
use Rattle.model_defs.specs.declared.phase.About.{About}
use Rattle.model_defs.specs.declared.phase.About.TheVariants.{RegisterMap, SharePlan}
use Rattle.model_defs.specs.declared.phase.Plan.{Plan}
use Rattle.model_defs.specs.declared.phase.Plan.TheVariants.{ImportPlan, ExportPlan}
use Rattle.model_defs.specs.Fitting.{IsFitting}
use Rattle.model_defs.specs.Maps.{layout_of, size_of}
use Rattle.model_defs.specs.Plans.{lacking, remote}
use Rattle.model_defs.specs.Transfers.{owner_map}
use Rattle.model_defs.specs.Valid.{IsValid}
use Rattle.rank_plans.specs.Books.{Book, asked_of, directory_of, has_map, has_plan, lacking_of, made_of, map_size_of, owners_of, told_of}
use Rattle.rank_plans.specs.Books as book
use Rattle.rank_stages.specs.JobStages.{IsJobStage, about_at}
use Rattle.rank_stages.specs.OwnerLaws.{plan_about}
use Rattle.rank_stages.specs.Views.{View}
use Rattle.rank_transfers.specs.JobRows.{IsJobExport, IsJobImport}
use Rattle.value_phases.specs.ValuePhases.{HasValuePhases, is_of_structure}

-- the view with what the book has
abbrev pub with_book : {S : Type 0} → View S → Book → View S
with_book view b = record view { directory = directory_of b; asked = asked_of b; owners = owners_of b; told = told_of b }

-- some phase before this one is about the map
pub record IsRegistered (job : Job) (before m : ℕ) : Type 0 where
  pub phase : ℕ
  pub is : about_at job phase ≡ Some (RegisterMap m)
  pub earlier : phase < before

-- some phase before this one is about the plan
pub record IsPlanned (job : Job) (before : ℕ) (plan : Plan) : Type 0 where
  pub phase : ℕ
  pub about : About
  pub is : about_at job phase ≡ Some about
  pub of_plan : plan_about about ≡ Some plan
  pub earlier : phase < before

-- the plan was begun with the size of its map of owners and the indices that rank p lacks
pub record IsBegun (job : Job) (files : List File) (b : Book) (p : ℕ) (plan : Plan) : Type 0 where
  pub size : book.size_of b plan ≡ Some (size_of job (owner_map job plan))
  pub lacked : lacking_of b plan ≡ lacking job files plan p

-- the lists are those of rank p's import or export by the plan; a plan of a structure is not kept in the book
abbrev pub IsMadePlan : Job → List File → ℕ → Plan → PlanLists → Type 0
IsMadePlan job files p (ImportPlan source target) lists = IsJobImport job files source target p lists
IsMadePlan job files p (ExportPlan source target) lists = IsJobExport job files source target p lists
IsMadePlan job files p _ lists = ⊥

module _ {S : Type 0} (R : Semiring S) (F : Conversions S) (job : Job) (files : List File) where
  -- The book is that of the rank of this view, which stands at a stage of a job.
  pub record IsBookStage (b : Book) (view : View S) (s : Stage) : Type 0 where
    pub valid : IsValid job
    pub fitting : IsFitting job files
    pub phased : HasValuePhases job
    pub stage : IsJobStage R F job files view s
    pub me : b.me ≡ s.rank
    pub ranks : b.ranks ≡ job.ranks
    -- the view is what the book has, and has what the rank lacks of each other one
    pub directory : view.directory ≡ directory_of b
    pub asked : view.asked ≡ asked_of b
    pub owners : view.owners ≡ owners_of b
    pub told : view.told ≡ told_of b
    pub own : view.own ≡ (λ plan q. remote job files plan s.rank q)
    -- it has the maps and the plans of the phases that were entered, and no others
    pub maps : (n m : ℕ) → about_at job n ≡ Some (RegisterMap m) → n < s.entered → map_size_of b m ≡ Some (size_of job m)
    pub only_maps : (m : ℕ) → has_map b m ≡ true → IsRegistered job s.entered m
    pub plans : (n : ℕ) (about : About) (plan : Plan) → about_at job n ≡ Some about → plan_about about ≡ Some plan → n < s.entered
        → IsBegun job files b s.rank plan
    pub only_plans : (plan : Plan) → has_plan b plan ≡ true → IsPlanned job s.entered plan
    -- it knows the owner of each index that it lacks by a plan that is shared
    pub known : (n : ℕ) (plan : Plan) (g : ℕ) → about_at job n ≡ Some (SharePlan plan) → n < s.entered
        → stands g (lacking job files plan s.rank) ≡ true → owners_of b plan g ≡ owner (layout_of job (owner_map job plan)) g
    -- the rank tells itself nothing
    pub none_told : (plan : Plan) → told_of b plan s.rank ≡ []
    -- the plans that were made are imports and exports between maps, and those of phases that were left were made
    pub made : (plan : Plan) (lists : PlanLists) → made_of b plan ≡ Some lists → IsMadePlan job files s.rank plan lists
    pub finished : (n : ℕ) (plan : Plan) → about_at job n ≡ Some (SharePlan plan) → is_of_structure plan ≡ false → suc n < s.entered
        → is_some (made_of b plan) ≡ true
