-- How many entries the letters of a job have.
use Rattle.std.specs.Prelude.{◌≡◌, ℕ, List, length, Some, slice_get}
use Rattle.scalar_laws.specs.Semiring.{Semiring}
use Rattle.scalar_laws.specs.Conversions.{Conversions}
use Rattle.letter_codec.specs.Letters.{IsLetter, letter_bytes}
use Rattle.letter_codec.specs.Parts.{IsEntryCount}
use Rattle.mm_text.specs.Reading.{File}
use Rattle.outside.specs.declared.name.Name.{Name}
use Rattle.peers.specs.Protocols.{Letter}
use Rattle.model_defs.specs.declared.job.Job.{Job}
use Rattle.model_defs.specs.declared.phase.Phase.{Phase}
use Rattle.model_defs.specs.Fitting.{IsFitting}
use Rattle.model_defs.specs.Letters.{letter_entries, letter_words}
use Rattle.model_defs.specs.Machine.{job_protocol}
use Rattle.model_defs.specs.Phases.{phases}
use Rattle.model_defs.specs.Valid.{IsValid}

-- The letter of this name that its sender makes, whatever letters it was given, has the form of its phase's kind, and as many entries as
-- the job says.
pub record HasJobEntries {S : Type 0} (R : Semiring S) (F : Conversions S) (job : Job) (files : List File) (phase : Phase) (name : Name) (given : List Letter) : Type 0 where
  pub numbers : List ℕ
  pub whole : (job_protocol R F job files).content name given ≡ letter_bytes phase.kind (letter_words job files phase name) numbers
  pub letter : IsLetter phase.kind (letter_words job files phase name) numbers
  pub counted : (count : ℕ) → IsEntryCount phase.kind (letter_words job files phase name) count → count ≡ length (letter_entries job files phase name)

-- So it is in each valid job with files that fit.
abbrev pub LettersHaveJobEntries : {S : Type 0} → Semiring S → Conversions S → Type 0
LettersHaveJobEntries R F =
    (job : Job) (files : List File) (phase : Phase) (name : Name) (given : List Letter) → IsValid job → IsFitting job files
    → slice_get (phases job) name.phase ≡ Some phase → HasJobEntries R F job files phase name given
