-- The words and the conditions of a book are those that the plans of a job give.
use Rattle.std.specs.Prelude.{◌≡◌, ℕ, ◌≤◌, true, List, map, length, Option, filter}
use Rattle.map_core.specs.Layouts.{owner, stands}
use Rattle.map_core.specs.Classes.{owns}
use Rattle.map_core.specs.Homes.{homed}
use Rattle.mm_text.specs.Reading.{File}
use Rattle.model_defs.specs.declared.job.Job.{Job}
use Rattle.model_defs.specs.declared.phase.About.TheVariants.{RegisterMap}
use Rattle.model_defs.specs.declared.phase.Plan.{Plan}
use Rattle.model_defs.specs.declared.phase.Plan.TheVariants.{ImportPlan, ExportPlan}
use Rattle.model_defs.specs.Maps.{layout_of, list_of, size_of}
use Rattle.model_defs.specs.Transfers.{owner_map}
use Rattle.model_defs.specs.Plans.{lacking}
use Rattle.model_defs.specs.Letters.{asked, entries_about, owner_word}
use Rattle.rank_plans.specs.Answers.{answered, lacked_in}

-- What a rank registers at another one is what the job's letter has.
abbrev pub RegistrationsAreEntries : Type 0
RegistrationsAreEntries =
    (job : Job) (files : List File) (k m p q : ℕ) → homed job.ranks (size_of job m) q (list_of job m p) ≡ entries_about job files k (RegisterMap m) p q

-- What a rank asks another one is what it lacks whose home that one is.
abbrev pub QuestionsAreAsked : Type 0
QuestionsAreAsked =
    (job : Job) (files : List File) (plan : Plan) (p q : ℕ) → homed job.ranks (size_of job (owner_map job plan)) q (lacking job files plan p) ≡ asked job files plan p q

-- By an import a rank lacks those of the target's list that the source's list has not.
abbrev pub ImportsLackTheRest : Type 0
ImportsLackTheRest =
    (job : Job) (files : List File) (source target p : ℕ) → lacked_in (list_of job source p) (list_of job target p) ≡ lacking job files (ImportPlan source target) p

-- By an export a rank lacks those of the source's list that the target's list has not.
abbrev pub ExportsLackTheRest : Type 0
ExportsLackTheRest =
    (job : Job) (files : List File) (source target p : ℕ) → lacked_in (list_of job target p) (list_of job source p) ≡ lacking job files (ExportPlan source target) p

-- Answers name the owners of the map, if these are ranks.
abbrev pub AnswersNameOwners : Type 0
AnswersNameOwners =
    (job : Job) (files : List File) (m g : ℕ) (xs : List ℕ) → job.ranks ≤ 32 → length (layout_of job m).lists ≤ job.ranks → stands g xs ≡ true
    → answered job.ranks xs (map (owner_word job files m) xs) g ≡ owner (layout_of job m) g

-- What is lacked of a rank by the owners that are known is what is lacked of it by the owners of the map.
abbrev pub OwnListsAreRemote : Type 0
OwnListsAreRemote =
    (job : Job) (files : List File) (plan : Plan) (p q : ℕ) (known : ℕ → Option ℕ)
    → ((g : ℕ) → stands g (lacking job files plan p) ≡ true → known g ≡ owner (layout_of job (owner_map job plan)) g)
    → filter (λ g. owns (known g) q) (lacking job files plan p) ≡ filter (λ g. owns (owner (layout_of job (owner_map job plan)) g) q) (lacking job files plan p)
