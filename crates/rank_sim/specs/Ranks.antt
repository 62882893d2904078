-- All ranks of a job, on the way of a run. No contract of a public call speaks of these.
use Rattle.std.specs.Prelude.{◌≡◌, ◌<◌, ℕ, List, [], length, map}
use Rattle.std.specs.Global.{Vec}
use Rattle.std.specs.List.{slice_index_or}
use Rattle.scalar_laws.specs.Semiring.{Semiring}
use Rattle.scalar_laws.specs.Conversions.{Conversions}
use Rattle.tables.specs.declared.Cell.{Cell}
use Rattle.tables.specs.Tables.{found}
use Rattle.mm_text.specs.Reading.{File}
use Rattle.outside.specs.MailRoom.{names_of}
use Rattle.peers.specs.Peers.{at_rest}
use Rattle.peers.specs.Protocols.{Letter, firsts}
use Rattle.peers.specs.Runs.{EachComes, IsRun}
use Rattle.message_play.specs.Plays.{StandsAt, given_to}
use Rattle.model_defs.specs.declared.job.Job.{Job}
use Rattle.model_defs.specs.declared.job.Step.{Step}
use Rattle.model_defs.specs.declared.job.Step.TheVariants as step
use Rattle.model_defs.specs.Fitting.{IsFitting}
use Rattle.model_defs.specs.Machine.{job_protocol, piece}
use Rattle.model_defs.specs.Numbers.{HaveNumbers}
use Rattle.model_defs.specs.Valid.{IsValid}
use Rattle.rank_core.specs.declared.rank.Rank.{Rank}
use Rattle.rank_core.specs.Ranks.{IsFinished, IsRank}

-- A valid job and files that fit it, whose integers have numbers of the kind.
pub record IsRunInput {S : Type 0} (F : Conversions S) (job : Job) (files : List File) : Type 0 where
  pub valid : IsValid job
  pub fitting : IsFitting job files
  pub numbers : HaveNumbers F job files

-- The ranks of the job, each of which has worked, and was given all letters to it, of these. They are a run of the job's letters.
pub record AreFinished {S : Type 0} (R : Semiring S) (F : Conversions S) (job : Job) (files : List File) (letters : List Letter)
    (ranks : List (Rank S)) : Type 0 where
  pub input : IsRunInput F job files
  pub many : length ranks ≡ job.ranks
  pub comes : EachComes (job_protocol R F job files) [] (names_of letters)
  pub run : IsRun (job_protocol R F job files) letters
  pub stands : (p : ℕ) → p < job.ranks
      → StandsAt (IsRank R F) ranks p (at_rest (job_protocol R F job files) p (given_to p (firsts letters)))
  pub finished : (p : ℕ) → p < job.ranks → IsFinished (at_rest (job_protocol R F job files) p (given_to p (firsts letters)))

-- they are the ranks of the job, and finished
abbrev pub HaveFinished : {S : Type 0} → Semiring S → Conversions S → Job → List (Rank S) → Type 0
HaveFinished R F job ranks = (files : List File) × ((letters : List Letter) × AreFinished R F job files letters ranks)

-- what a statement prints is one of the first n values
abbrev pub PrintsBelow : ℕ → Step → Type 0
PrintsBelow n (step.Print v) = v < n
PrintsBelow n _ = Unit {0}

-- these are the cells of the ranks' pieces of a value
abbrev pub ArePieces : {S : Type 0} → Semiring S → Conversions S → Job → List File → List Letter → ℕ → List (Vec (Cell S)) → Type 0
ArePieces R F job files letters v pieces =
    (p : ℕ) → p < job.ranks → found (slice_index_or (map (λ piece. piece.items) pieces) p []) ≡ piece R F job files p v (firsts letters)
