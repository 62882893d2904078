-- The words of a rank's letter are those of the job's letter.
use Rattle.std.proofs.Common.{◌≡◌, ℕ, ◌<◌, true, List, Some, map, sym, ap, ◌∙◌, arith}
use Rattle.scalar_laws.specs.Semiring.{Semiring}
use Rattle.scalar_laws.specs.Conversions.{Conversions}
use Rattle.map_core.specs.Homes.{homed}
use Rattle.mm_text.specs.Reading.{File}
use Rattle.model_defs.specs.declared.job.Job.{Job}
use Rattle.model_defs.specs.declared.phase.About.{About}
use Rattle.model_defs.specs.declared.phase.About.TheVariants.{RegisterMap, AskOwners, TellOwners, SharePlan}
use Rattle.model_defs.specs.declared.phase.Plan.{Plan}
use Rattle.model_defs.specs.Letters.{entries_about}
use Rattle.model_defs.specs.Maps.{size_of}
use Rattle.model_defs.specs.Transfers.{owner_map}
use Rattle.rank_plans.specs.Answers.{word_of}
use Rattle.rank_plans.specs.Books.{Book, asked_of, directory_of, has_map, lacking_of, own_of}
use Rattle.rank_plans.specs.Books as book
use Rattle.rank_stages.specs.OwnerLaws.{plan_about}
use Rattle.plan_phases.specs.BookStages.{IsBookStage}
use Rattle.plan_phases.specs.BookCalls.{IsSendingBook}
use Rattle.plan_phases.proofs.WordsStage.{answers-told, own-remote, owners-there, plan-begun}

module _ {S : Type 0} (R : Semiring S) (F : Conversions S) (job : Job) (files : List File) (b : Book) (about : About) (to : ℕ)
    (e : IsSendingBook R F job files b about to) where
  abbrev k : IsBookStage R F job files b e.view e.stage
  k = e.kept

  low : e.phase < e.stage.entered
  low = let here = e.here in omega (arith, here)

  pub sent-registered : (m i : ℕ) → about ≡ RegisterMap m → (words : List ℕ) → words ≡ entries_about job files i (RegisterMap m) b.me to
      → words ≡ entries_about job files i about e.stage.rank to
  sent-registered m i is words same =
      same ∙ (λ t. entries_about job files i (RegisterMap m) (k.me t) to) ∙ ap (λ a. entries_about job files i a e.stage.rank to) (sym is)

  pub sent-asked : (plan : Plan) (i : ℕ) → about ≡ AskOwners plan → (words : List ℕ)
      → ((size : ℕ) → book.size_of b plan ≡ Some size → words ≡ homed b.ranks size to (lacking_of b plan))
      → words ≡ entries_about job files i about e.stage.rank to
  sent-asked plan i is words same =
      let begun = plan-begun R F job files b e.view e.stage k e.phase about e.is low plan (ap plan_about is) in
      same (size_of job (owner_map job plan)) begun.size
      ∙ (λ t. homed (k.ranks t) (size_of job (owner_map job plan)) to (begun.lacked t))
      ∙ ap (λ a. entries_about job files i a e.stage.rank to) (sym is)

  pub sent-directory : (m : ℕ) (plan : Plan) → about ≡ TellOwners plan → m ≡ owner_map job plan → has_map b m ≡ true
  sent-directory m plan is of = ap (has_map b) of ∙ owners-there R F job files b e.view e.stage k e.phase about e.is low plan is

  pub sent-told : (m i : ℕ) (plan : Plan) → about ≡ TellOwners plan → m ≡ owner_map job plan → (words : List ℕ)
      → words ≡ map (λ g. word_of (directory_of b m g)) (asked_of b plan to)
      → words ≡ entries_about job files i about e.stage.rank to
  sent-told m i plan is of words same =
      same
      ∙ (λ t. map (λ g. word_of (directory_of b (of t) g)) (asked_of b plan to))
      ∙ answers-told R F job files b e.view e.stage k e.phase about e.is low plan is i to e.known

  pub sent-shared : (plan : Plan) (i : ℕ) → about ≡ SharePlan plan → (words : List ℕ) → words ≡ own_of b plan to
      → words ≡ entries_about job files i about e.stage.rank to
  sent-shared plan i is words same =
      same ∙ own-remote R F job files b e.view e.stage k e.phase about e.is low plan is to
      ∙ ap (λ a. entries_about job files i a e.stage.rank to) (sym is)
