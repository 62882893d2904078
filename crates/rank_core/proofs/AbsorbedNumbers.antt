-- A worker absorbs a letter of numbers.
use Rattle.std.proofs.Common.{◌≡◌, ℕ, suc, ◌<◌, ◌≤◌, cond, ◌&&◌, eqb, if◌then◌else◌, List, [], ◌∷◌, ◌++◌, length, Some, refl, sym, ap, subst, ◌∙◌, arith}
use Rattle.std.proofs.lemmas.Bool.{and_from, eq-eqb}
use Rattle.scalar_laws.specs.Semiring.{Semiring}
use Rattle.scalar_laws.specs.Conversions.{AreConversions, Conversions}
use Rattle.combine_modes.specs.Modes.{after_one}
use Rattle.letter_codec.specs.declared.kind.Kind.{Kind}
use Rattle.letter_codec.specs.Letters.{IsLetter, letter_bytes}
use Rattle.letter_codec.specs.Parts.{IsEntryCount}
use Rattle.outside.specs.declared.name.Name.{Name}
use Rattle.outside.specs.Letters.{same_name}
use Rattle.rank_phases.specs.Stages.{Stage, CanAbsorb, absorbing}
use Rattle.tables.specs.Tables.{Table}
use Rattle.model_defs.specs.declared.job.Job.{Job}
use Rattle.model_defs.specs.Machine.{letter_table}
use Rattle.model_defs.specs.Stages.{is_fixed}
use Rattle.rank_stages.specs.JobStages.{IsJobStage, target_so_far}
use Rattle.rank_stages.proofs.Absorbing.{numbers_are_absorbed}
use Rattle.rank_stages.proofs.LetterForms.{numbers_are_read}
use Rattle.plan_phases.proofs.Passing.{books_stay}
use Rattle.value_phases.specs.ValuePhases.{HasValuePhases}
use Rattle.rank_makings.specs.declared.coming.Coming.{Coming}
use Rattle.rank_makings.specs.Comings.{IsComing, IsComingIn, IsLetterFor, Scene, with_letter}
use Rattle.rank_makings.specs.Laws.{ComingsStay, LettersHaveForm, WordsAreFew}
use Rattle.rank_core.specs.declared.counts.EntryCounts.{EntryCounts}
use Rattle.rank_core.specs.declared.makings.Making.TheVariants.{Arriving}
use Rattle.rank_core.specs.declared.worker.JobWorker.{JobWorker}
use Rattle.rank_core.specs.Counts.{count_of}
use Rattle.rank_core.specs.Makings.{IsMakingIn, IsSending}
use Rattle.rank_core.specs.Results.{HasEntries}
use Rattle.rank_core.specs.Workers.{IsJobWorker, IsMakingAt}
use Rattle.rank_core.proofs.MoreLetters.{counted}
use Rattle.rank_core.proofs.PackedLetters.{making-in}
use Rattle.rank_core.proofs.RankNames.{from-known}
use Rattle.rank_core.proofs.Standing.{pieces-stay}
use Rattle.rank_core.proofs.Turns.{sent-of-any}

module _ {S : Type 0} (R : Semiring S) (F : Conversions S) (laws : AreConversions F) (few : WordsAreFew) (forms : LettersHaveForm R F) (stay : ComingsStay R F)
    (worker : JobWorker S) (s : Stage) (stands : IsJobWorker R F worker s) (phased : HasValuePhases worker.job.value) (name : Name)
    (bytes : List ℕ) (can : CanAbsorb s name bytes) (c : Coming S) (some : worker.making ≡ Some (Arriving c)) where
  abbrev job : Job
  job = worker.job.value

  abbrev k : ℕ
  k = length worker.values.items

  pub coming-now : (stage : ℕ) × (IsSending worker.job.value name.phase (length worker.values.items) stage
      × IsComing R F worker.job.value stands.files worker.me worker.values.items s.absorbed (length worker.values.items) stage (stands.view.gathered (length worker.values.items) stage) c)
  coming-now =
      subst (IsMakingIn R F job stands.files worker.me worker.values.items s.absorbed name.phase (length worker.values.items) stands.view.gathered) some
      (making-in R F worker s stands name.phase can.here)

  abbrev stage : ℕ
  stage = coming-now.0

  pub scene : Scene S
  scene = record {
    job = worker.job.value;
    files = stands.files;
    me = worker.me;
    pieces = worker.values.items;
    given = s.absorbed;
    k = length worker.values.items;
    stage = coming-now.0;
    now = stands.view.gathered (length worker.values.items) coming-now.0;
  }

  pub comes : IsComingIn R F scene c
  unfolding scene
  comes = coming-now.1.1

  sends : IsSending worker.job.value name.phase (length worker.values.items) coming-now.0
  sends = coming-now.1.0

  pub letter-for : IsLetterFor R F scene name bytes
  unfolding scene
  letter-for = record {
    from = from-known R F job stands.files stands.view s stands.book.stage name can.is_letter.named;
    to = can.is_letter.to ∙ stands.worker_of.rank;
    read = numbers_are_read R laws job stands.files stands.view s name bytes k stage stands.book.stage can (sent-of-any job name.phase k stage sends)
        (few job stands.files k stage name.from name.to name.phase stands.book.valid stands.book.fitting
        (sent-of-any job name.phase k stage sends));
  }

  pub has-form : (kind : Kind) × ((words : List ℕ) × ((numbers : List ℕ) × (IsLetter kind words numbers × (bytes ≡ letter_bytes kind words numbers))))
  has-form = forms scene c name bytes comes letter-for

  abbrev now : Table S → ℕ → ℕ → Table S
  now table v u = cond ((eqb v k) && (eqb u stage)) table (stands.view.gathered v u)

  now-here : (table : Table S) → now table k stage ≡ table
  now-here table = ap (λ b. cond b table (stands.view.gathered k stage)) (and_from (eqb k k) (eqb stage stage) (eq-eqb k k refl) (eq-eqb stage stage refl))

  abbrev table : Table S
  table i j =
      after_one R (target_so_far R F job stands.files worker.me s.absorbed k stage).mode (is_fixed job k) (stands.view.gathered k stage i j)
      (letter_table R F job stands.files (name, bytes) i j)

  abbrev table-by : ℕ → Table S
  table-by p i j =
      after_one R (target_so_far R F job stands.files p s.absorbed k stage).mode (is_fixed job k) (stands.view.gathered k stage i j)
      (letter_table R F job stands.files (name, bytes) i j)

  stage-after : IsJobStage R F worker.job.value stands.files (record stands.view { gathered = now table }) (absorbing s ((name, bytes) ∷ []))
  stage-after =
      numbers_are_absorbed R F job stands.files stands.view s name bytes k stage (now table)
      (record { valid = stands.book.valid; fitting = stands.book.fitting; stands_so = stands.book.stage; can_absorb = can }) (sent-of-any job name.phase k stage sends)
      (now-here table ∙ ap table-by (sym stands.worker_of.rank))
      (λ v u e. ap (λ b. cond b table (stands.view.gathered v u)) e)

  module _ (new : Coming S) (absorbed : IsComingIn R F (with_letter R F scene name bytes) new) where
    comes-so : IsComing R F worker.job.value stands.files worker.me worker.values.items (s.absorbed ++ (name, bytes) ∷ []) (length worker.values.items) coming-now.0 (now table (length worker.values.items) coming-now.0) new
    unfolding scene
    comes-so =
        subst (λ t. IsComing R F job stands.files worker.me worker.values.items (s.absorbed ++ (name, bytes) ∷ []) k stage t new) (sym (now-here table))
        (stay job stands.files worker.me worker.values.items s.absorbed (name, bytes) k stage name.phase table new (sent-of-any job name.phase k stage sends) (omega arith) absorbed)

    pub numbers-absorbed : (counts : EntryCounts) (count : ℕ)
        → ((kind : Kind) (ws numbers : List ℕ) → IsLetter kind ws numbers → bytes ≡ letter_bytes kind ws numbers → IsEntryCount kind ws count)
        → ((n : Name) → count_of counts n ≡ (if same_name name n then Some count else count_of worker.counts n))
        → IsJobWorker R F (record worker { making = Some (Arriving new); counts = counts }) (absorbing s ((name, bytes) ∷ []))
    numbers-absorbed counts count entries put =
        let form = has-form in
        let has : HasEntries bytes count = record {
          kind = form.0;
          words = form.1.0;
          numbers = form.1.1.0;
          letter = form.1.1.1.0;
          whole = form.1.1.1.1;
          entries = entries form.0 form.1.0 form.1.1.0 form.1.1.1.0 form.1.1.1.1;
        } in
        record {
          files = stands.files;
          view = record stands.view { gathered = now table };
          worker_of = record {
            input = stands.worker_of.input;
            rank = stands.worker_of.rank;
            shapes = stands.worker_of.shapes;
            shape_count = stands.worker_of.shape_count;
            phase_list = stands.worker_of.phase_list;
            phase_count = stands.worker_of.phase_count;
          };
          book =
              books_stay R F job stands.files worker.book stands.view (record stands.view { gathered = now table }) s ((name, bytes) ∷ []) stands.book
              (record { directory = refl; asked = refl; owners = refl; own = refl; told = refl }) stage-after;
          values = pieces-stay R F job stands.files worker.me phased s.entered s.absorbed (name, bytes) worker.values.items (let here = can.here in omega arith) stands.values;
          making = subst (IsMakingAt R F (record worker { making = Some (Arriving new); counts = counts }) stands.files (absorbing s ((name, bytes) ∷ [])) (now table)) can.here
              (stage, (sends, comes-so));
          counts = counted worker.counts counts name bytes count s stands.counts can.first has put;
        }
