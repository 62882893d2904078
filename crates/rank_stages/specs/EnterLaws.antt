-- What a rank of a valid job keeps after it entered a phase, by what the phase is about: the values that are made by now, one
-- thing more, and all others stay.
use Rattle.std.specs.Prelude.{◌≡◌, ℕ, suc, ◌<◌, ◌==◌, ◌&&◌, false, true, nat_lt, if◌then◌else◌, List, length, Option, Some, None}
use Rattle.scalar_laws.specs.Semiring.{Semiring}
use Rattle.scalar_laws.specs.Conversions.{Conversions}
use Rattle.tables.specs.Indices.{stands}
use Rattle.tables.specs.Tables.{Table, nowhere}
use Rattle.combine_modes.specs.Modes.{after_one}
use Rattle.mm_text.specs.Reading.{File}
use Rattle.peers.specs.Protocols.{Letter}
use Rattle.rank_phases.specs.Phases.{absorbed}
use Rattle.rank_phases.specs.Stages.{Stage, CanEnter, entering}
use Rattle.model_defs.specs.declared.job.Job.{Job}
use Rattle.model_defs.specs.declared.phase.About.TheVariants.{RegisterMap, AskOwners, TellOwners, SharePlan}
use Rattle.model_defs.specs.declared.phase.Plan.{Plan}
use Rattle.model_defs.specs.Fitting.{IsFitting}
use Rattle.model_defs.specs.Makers.{value_count}
use Rattle.model_defs.specs.Transfers.{owner_map, same_plan}
use Rattle.model_defs.specs.Phases.{phases, send_phase}
use Rattle.model_defs.specs.Plans.{brought, remote}
use Rattle.model_defs.specs.Letters.{asked, entries_about}
use Rattle.model_defs.specs.Stages.{first_pieces, gathered_after, is_fixed, made_piece, rank_entries, stage_count, transfer_at}
use Rattle.model_defs.specs.Machine.{arrivals, piece}
use Rattle.model_defs.specs.Valid.{IsValid}
use Rattle.rank_stages.specs.Views.{View}
use Rattle.rank_stages.specs.JobStages.{HasValues, IsJobStage, IsOpen, about_at, target_so_far}

module _ {S : Type 0} (R : Semiring S) (F : Conversions S) where
  -- the rank of this view stands at a stage, and can enter this phase, or the end, with these values made
  pub record IsEntering (job : Job) (files : List File) (view : View S) (s : Stage) (phase : ℕ)
      (values : ℕ → Option (Table S)) : Type 0 where
    pub valid : IsValid job
    pub fitting : IsFitting job files
    pub stands_so : IsJobStage R F job files view s
    pub can_enter : CanEnter s phase
    pub made : HasValues R F job files values (entering s)

  -- A value is made of the pieces of those before it and of what was gathered in the last of its transfers.
  abbrev pub PiecesAreMade : Type 0
  PiecesAreMade =
      (job : Job) (files : List File) (p k : ℕ) (g : List Letter) → k < value_count job
      → piece R F job files p k g
      ≡ made_piece R F job files p k (first_pieces R F job files p (arrivals R F job files p g) k)
      (gathered_after R F job files p (arrivals R F job files p g) k
      (first_pieces R F job files p (arrivals R F job files p g) k) (stage_count job k))

  -- The first pieces are those of the values before, and none beyond.
  abbrev pub FirstPiecesArePieces : Type 0
  FirstPiecesArePieces =
      (job : Job) (files : List File) (p k v : ℕ) (g : List Letter) → k < value_count job
      → first_pieces R F job files p (arrivals R F job files p g) k v ≡ (if nat_lt v k then piece R F job files p v g else nowhere)

  -- The first values are made, up to one of which a transfer is not left.
  abbrev pub FirstValuesAreMade : Type 0
  FirstValuesAreMade =
      (job : Job) (files : List File) (count : ℕ) (values : ℕ → Option (Table S)) (s : Stage)
      → ((k : ℕ) → k < count → values k ≡ Some (piece R F job files s.rank k s.absorbed))
      → (count < value_count job → IsOpen job s.entered count)
      → HasValues R F job files values s

  -- REG: the rank registers its own indices whose home it is.
  abbrev pub RegistrationsAreEntered : Type 0
  RegistrationsAreEntered =
      (job : Job) (files : List File) (view : View S) (s : Stage) (phase k m : ℕ)
      (values : ℕ → Option (Table S)) (directory : ℕ → ℕ → Option ℕ)
      → IsEntering job files view s phase values → about_at job phase ≡ Some (RegisterMap m)
      → ((g : ℕ) → directory m g ≡ (if stands g (entries_about job files k (RegisterMap m) s.rank s.rank) then Some s.rank else None))
      → ((o g : ℕ) → (o == m) ≡ false → directory o g ≡ view.directory o g)
      → IsJobStage R F job files (record view { values = values; directory = directory }) (entering s)

  -- ASK: it keeps what it asks itself.
  abbrev pub QuestionsAreEntered : Type 0
  QuestionsAreEntered =
      (job : Job) (files : List File) (view : View S) (s : Stage) (phase : ℕ) (plan : Plan)
      (values : ℕ → Option (Table S)) (questions : Plan → ℕ → List ℕ)
      → IsEntering job files view s phase values → about_at job phase ≡ Some (AskOwners plan)
      → questions plan s.rank ≡ asked job files plan s.rank s.rank
      → ((other : Plan) (q : ℕ) → same_plan other plan ≡ false → questions other q ≡ view.asked other q)
      → IsJobStage R F job files (record view { values = values; asked = questions }) (entering s)

  -- TELL: it answers itself by its directory.
  abbrev pub AnswersAreEntered : Type 0
  AnswersAreEntered =
      (job : Job) (files : List File) (view : View S) (s : Stage) (phase : ℕ) (plan : Plan)
      (values : ℕ → Option (Table S)) (owners : Plan → ℕ → Option ℕ)
      → IsEntering job files view s phase values → about_at job phase ≡ Some (TellOwners plan)
      → ((g : ℕ) → stands g (asked job files plan s.rank s.rank) ≡ true → owners plan g ≡ view.directory (owner_map job plan) g)
      → ((other : Plan) (g : ℕ) → same_plan other plan ≡ false → owners other g ≡ view.owners other g)
      → IsJobStage R F job files (record view { values = values; owners = owners }) (entering s)

  -- WANT and OFFER: it has what it lacks of each rank.
  abbrev pub ListsAreEntered : Type 0
  ListsAreEntered =
      (job : Job) (files : List File) (view : View S) (s : Stage) (phase : ℕ) (plan : Plan)
      (values : ℕ → Option (Table S)) (own : Plan → ℕ → List ℕ)
      → IsEntering job files view s phase values → about_at job phase ≡ Some (SharePlan plan)
      → ((q : ℕ) → own plan q ≡ remote job files plan s.rank q)
      → ((other : Plan) (q : ℕ) → same_plan other plan ≡ false → own other q ≡ view.own other q)
      → IsJobStage R F job files (record view { values = values; own = own }) (entering s)

  -- DATA and ROWS: its own entries come first.
  abbrev pub NumbersAreEntered : Type 0
  NumbersAreEntered =
      (job : Job) (files : List File) (view : View S) (s : Stage) (phase k t : ℕ)
      (values : ℕ → Option (Table S)) (gathered : ℕ → ℕ → Table S)
      → IsEntering job files view s phase values → send_phase job k t ≡ Some phase
      → (let target = target_so_far R F job files s.rank s.absorbed k t in
      gathered k t ≡ (λ i j. after_one R target.mode (is_fixed job k) (target.old i j)
      (brought job files (transfer_at job k t)
      (rank_entries R F job files s.rank (arrivals R F job files s.rank s.absorbed) k t) s.rank s.rank i j)))
      → ((v u : ℕ) → (v == k) && (u == t) ≡ false → gathered v u ≡ view.gathered v u)
      → IsJobStage R F job files (record view { values = values; gathered = gathered }) (entering s)

  -- At the end all values are made, and nothing else changes.
  abbrev pub EndIsEntered : Type 0
  EndIsEntered =
      (job : Job) (files : List File) (view : View S) (s : Stage) (phase : ℕ) (values : ℕ → Option (Table S))
      → IsEntering job files view s phase values → about_at job phase ≡ None
      → IsJobStage R F job files (record view { values = values }) (entering s)

  -- A rank that entered the end has its piece of each value.
  abbrev pub AllAreMadeAtTheEnd : Type 0
  AllAreMadeAtTheEnd =
      (job : Job) (files : List File) (view : View S) (s : Stage) (k : ℕ) → IsJobStage R F job files view s → s.phases < s.entered
      → k < value_count job → view.values k ≡ Some (piece R F job files s.rank k s.absorbed)

  -- It is the piece that the letters give in the order in which they came: their order by phase changes nothing.
  abbrev pub PiecesAreByPhase : Type 0
  PiecesAreByPhase =
      (job : Job) (files : List File) (p k : ℕ) (given : List Letter)
      → piece R F job files p k (absorbed (suc (length (phases job))) given) ≡ piece R F job files p k given
