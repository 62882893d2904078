-- Which letters a rank posts and awaits in a phase, and what their bytes are.
use Rattle.std.specs.Prelude.{◌≡◌, ℕ, ◌<◌, ◌≤◌, ◌*◌, ◌^◌, ◌==◌, Bool, true, false, List, [], Some, length, slice_get}
use Rattle.scalar_laws.specs.Semiring.{Semiring}
use Rattle.scalar_laws.specs.Conversions.{Conversions}
use Rattle.mm_text.specs.Reading.{File}
use Rattle.outside.specs.declared.name.Name.{Name}
use Rattle.peers.specs.Protocols.{Letter, stands_in}
use Rattle.letter_codec.specs.Letters.{IsLetter, letter_bytes}
use Rattle.letter_codec.specs.declared.kind.Kind.{Kind}
use Rattle.letter_codec.specs.declared.kind.Kind.TheVariants.{Reg, Ask, Tell}
use Rattle.rank_phases.specs.Stages.{Stage, CanAbsorb, CanSend}
use Rattle.rank_phases.specs.Pairs.{to_others, from_others}
use Rattle.rank_phases.specs.Phases.{names_from, names_to}
use Rattle.model_defs.specs.declared.job.Job.{Job}
use Rattle.model_defs.specs.declared.phase.About.{About}
use Rattle.model_defs.specs.declared.phase.About.TheVariants.{RegisterMap, AskOwners, TellOwners, SharePlan, SendNumbers}
use Rattle.model_defs.specs.declared.phase.Phase.{Phase}
use Rattle.model_defs.specs.declared.phase.Transfer.{Transfer}
use Rattle.model_defs.specs.Limits.{most_size}
use Rattle.model_defs.specs.Phases.{phases, send_kind, send_phase, share_kind}
use Rattle.model_defs.specs.Plans.{sent_rows}
use Rattle.model_defs.specs.Stages.{rank_entries, transfer_at}
use Rattle.model_defs.specs.Letters.{entries_about, entry_places, letter_names, sent_places, width, words_of_rows}
use Rattle.model_defs.specs.Machine.{arrivals, cells_at, job_protocol, letter_cells, place_bytes}
use Rattle.model_defs.specs.Valid.{IsValid}
use Rattle.rank_stages.specs.Views.{View}
use Rattle.rank_stages.specs.JobStages.{IsJobStage, about_at, letter_name}

-- whether a phase sends numbers
abbrev pub sends_numbers : About → Bool
sends_numbers (SendNumbers stage) = true
sends_numbers _ = false

-- In a phase that sends no numbers a rank posts to each other rank and awaits a letter from each, in ascending order.
abbrev pub PlansGoToAll : Type 0
PlansGoToAll =
    (job : Job) (files : List File) (n p : ℕ) (about : About) → about_at job n ≡ Some about → sends_numbers about ≡ false → p < job.ranks
    → (names_from (letter_names job files) n p ≡ to_others job.ranks n p)
    × (names_to (letter_names job files) n p ≡ from_others job.ranks n p)

-- Each other rank's letter of it is one of the job's.
abbrev pub PlansComeFromAll : Type 0
PlansComeFromAll =
    (job : Job) (files : List File) (n p q : ℕ) (about : About) → about_at job n ≡ Some about → sends_numbers about ≡ false
    → p < job.ranks → q < job.ranks → (q == p) ≡ false
    → stands_in (letter_names job files) (letter_name n q p) ≡ true

-- the kind of a letter, by what its phase is about
abbrev pub kind_about : Job → ℕ → About → Kind
kind_about job k (RegisterMap m) = Reg
kind_about job k (AskOwners plan) = Ask
kind_about job k (TellOwners plan) = Tell
kind_about job k (SharePlan plan) = share_kind plan
kind_about job k (SendNumbers stage) = send_kind job k

abbrev pub PhasesHaveKinds : Type 0
PhasesHaveKinds = (job : Job) (n : ℕ) (phase : Phase) → slice_get (phases job) n ≡ Some phase
    → phase.kind ≡ kind_about job phase.value phase.about

-- A letter of a phase that sends no numbers has its entries as words, and nothing else: it has the form of its kind.
abbrev pub PlanLettersHaveForm : Type 0
PlanLettersHaveForm =
    (job : Job) (files : List File) (n k : ℕ) (about : About) (p q : ℕ) → IsValid job → about_at job n ≡ Some about
    → sends_numbers about ≡ false
    → IsLetter (kind_about job k about) (entries_about job files k about p q) []

-- A transfer has at most 2^40 rows for a rank.
abbrev pub RowsAreFew : Type 0
RowsAreFew = (job : Job) (files : List File) (t : Transfer) (p q : ℕ) → IsValid job → length (sent_rows job files t p q) ≤ most_size

-- the words of a letter of a transfer of value k from p to q
abbrev pub row_words : Job → List File → ℕ → ℕ → ℕ → ℕ → List ℕ
row_words job files k t p q =
    words_of_rows job files (send_kind job k) (entry_places job files p k t) (width job files k)
    (sent_rows job files (transfer_at job k t) p q)

module _ {S : Type 0} (R : Semiring S) (F : Conversions S) where
  -- So a rank packs it, whatever letters it was given,
  abbrev pub PlansArePacked : Type 0
  PlansArePacked =
      (job : Job) (files : List File) (name : Name) (phase : Phase) (given : List Letter) → slice_get (phases job) name.phase ≡ Some phase
      → sends_numbers phase.about ≡ false
      → (job_protocol R F job files).content name given
      ≡ letter_bytes phase.kind (entries_about job files phase.value phase.about name.from name.to) []

  -- and whatever a wire gives for it are these bytes.
  abbrev pub PlansAreRead : Type 0
  PlansAreRead =
      (job : Job) (files : List File) (view : View S) (s : Stage) (name : Name) (bytes : List ℕ) (phase : Phase) → IsValid job
      → IsJobStage R F job files view s
      → CanAbsorb s name bytes → slice_get (phases job) name.phase ≡ Some phase → sends_numbers phase.about ≡ false
      → bytes ≡ letter_bytes phase.kind (entries_about job files phase.value phase.about name.from s.rank) []

  -- A letter of a transfer has the numbers of the sender's entries, by the letters that it absorbed,
  abbrev pub NumbersArePacked : Type 0
  NumbersArePacked =
      (job : Job) (files : List File) (view : View S) (s : Stage) (name : Name) (k t : ℕ) → IsJobStage R F job files view s → CanSend s name
      → send_phase job k t ≡ Some name.phase
      → s.protocol.content name s.absorbed
      ≡ letter_bytes (send_kind job k) (row_words job files k t s.rank name.to)
      (place_bytes R F (rank_entries R F job files s.rank (arrivals R F job files s.rank s.absorbed) k t)
      (sent_places job files k t s.rank name.to))

  -- What a wire gives for it has the same words, and a number for each place, whichever; these are the cells that come.
  pub record IsRead (job : Job) (files : List File) (name : Name) (bytes : List ℕ) (k t : ℕ) : Type 0 where
    pub numbers : List ℕ
    pub whole : bytes ≡ letter_bytes (send_kind job k) (row_words job files k t name.from name.to) numbers
    pub many : length numbers ≡ 32 * length (sent_places job files k t name.from name.to)
    pub cells : letter_cells R F job files (name, bytes) ≡ cells_at F (sent_places job files k t name.from name.to) numbers

  abbrev pub NumbersAreRead : Type 0
  NumbersAreRead =
      (job : Job) (files : List File) (view : View S) (s : Stage) (name : Name) (bytes : List ℕ) (k t : ℕ) → IsJobStage R F job files view s
      → CanAbsorb s name bytes → send_phase job k t ≡ Some name.phase → length (row_words job files k t name.from name.to) < 2 ^ 64
      → IsRead job files name bytes k t
