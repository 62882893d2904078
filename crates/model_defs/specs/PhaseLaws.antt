-- What the phases of a job are about, and what the letters of a directory say.
use Rattle.std.specs.Prelude.{◌≡◌, ◌<◌, ◌↔◌, ℕ, List, true, Some, None}
use Rattle.std.specs.List.{slice_index_or}
use Rattle.mm_text.specs.Reading.{File}
use Rattle.tables.specs.Indices.{stands}
use Rattle.map_core.specs.Layouts.{IsOneToOne, owner}
use Rattle.model_defs.specs.declared.job.Job.{Job}
use Rattle.model_defs.specs.Maps.{layout_of, is_home_rank}
use Rattle.model_defs.specs.Makers.{value_count}
use Rattle.model_defs.specs.Transfers.{is_local}
use Rattle.model_defs.specs.Phases.{phases, send_phase, RegisterMap, SendNumbers}
use Rattle.model_defs.specs.Stages.{transfer_at, stage_count}
use Rattle.model_defs.specs.Letters.{entries_about}
use Rattle.model_defs.specs.Machine.{no_phase}

-- The phase of a transfer is for its value and sends its numbers. A transfer without a phase is by a plan from a map to itself.
abbrev pub TransfersHavePhases : Type 0
TransfersHavePhases =
    (job : Job) (k t : ℕ)
    → ((n : ℕ) → send_phase job k t ≡ Some n
    → ((slice_index_or (phases job) n no_phase).value ≡ k) × ((slice_index_or (phases job) n no_phase).about ≡ SendNumbers t))
    × (k < value_count job → t < stage_count job k → send_phase job k t ≡ None → is_local (transfer_at job k t).plan ≡ true)

-- Of the registrations of a map at the home of an index that of its owner alone has it, the home's own among them.
abbrev pub RegistrationsSayOwners : Type 0
RegistrationsSayOwners =
    (job : Job) (files : List File) (k m p h g : ℕ) → IsOneToOne (layout_of job m) → is_home_rank job m h g ≡ true
    → (stands g (entries_about job files k (RegisterMap m) p h) ≡ true) ↔ (owner (layout_of job m) g ≡ Some p)
