-- The laws of the phases of a job.
use Rattle.std.specs.Prelude.{◌≡◌, ◌<◌, ℕ, Bool, List, [], filter, length, map}
use Rattle.std.specs.List.{slice_index_or}
use Rattle.scalar_laws.specs.Semiring.{Semiring}
use Rattle.scalar_laws.specs.Conversions.{Conversions}
use Rattle.mm_text.specs.Reading.{File}
use Rattle.outside.specs.declared.name.Name.{Name}
use Rattle.rank_phases.specs.Pairs.{sent_names, to_others, from_others}
use Rattle.rank_phases.specs.Phases.{GoesByPhase, names_from, names_to}
use Rattle.model_defs.specs.declared.job.Job.{Job}
use Rattle.model_defs.specs.declared.phase.Phase.{Phase}
use Rattle.model_defs.specs.Phases.{phases}
use Rattle.model_defs.specs.Letters.{is_posted, letter_entries, letter_names}
use Rattle.model_defs.specs.Local.{IsLocalJob}
use Rattle.model_defs.specs.Machine.{job_protocol, no_phase}

-- whether a letter of a phase is posted: one of numbers without entries is not
abbrev pub is_sent : Job → List File → Phase → Name → Bool
is_sent job files phase name = is_posted job files phase.about (letter_entries job files phase name)

-- the phase of this number
abbrev pub phase_at : Job → ℕ → Phase
phase_at job n = slice_index_or (phases job) n no_phase

-- The letters of every job go phase by phase.
abbrev pub JobsGoByPhase : {S : Type 0} → Semiring S → Conversions S → Type 0
JobsGoByPhase R F = (job : Job) (files : List File) → GoesByPhase (job_protocol R F job files) (length (phases job))

-- They are those between each two different ranks that the phase's test keeps, phase by phase.
abbrev pub NamesAreByPhase : Type 0
NamesAreByPhase = (job : Job) (files : List File) → letter_names job files ≡ sent_names job.ranks 0 (map (is_sent job files) (phases job))

-- In a phase a rank posts to each other rank, and awaits a letter from each other rank.
abbrev pub OthersArePosted : Type 0
OthersArePosted =
    (job : Job) (files : List File) (n p : ℕ) → n < length (phases job) → p < job.ranks
    → names_from (letter_names job files) n p ≡ filter (is_sent job files (phase_at job n)) (to_others job.ranks n p)

abbrev pub OthersAreAwaited : Type 0
OthersAreAwaited =
    (job : Job) (files : List File) (n p : ℕ) → n < length (phases job) → p < job.ranks
    → names_to (letter_names job files) n p ≡ filter (is_sent job files (phase_at job n)) (from_others job.ranks n p)

-- A job without matrices whose statements go cell by cell, or print, has no phases.
abbrev pub LocalJobsHaveNoPhases : Type 0
LocalJobsHaveNoPhases = (job : Job) → IsLocalJob job → phases job ≡ []
