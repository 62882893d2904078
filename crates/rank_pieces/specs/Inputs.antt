-- What a rank of a job starts with.
use Rattle.std.specs.Prelude.{◌≡◌, ℕ, ◌<◌, List}
use Rattle.scalar_laws.specs.Conversions.{Conversions}
use Rattle.mm_text.specs.Reading.{File}
use Rattle.model_defs.specs.declared.job.Job.{Job}
use Rattle.model_defs.specs.Fitting.{IsFitting}
use Rattle.model_defs.specs.Numbers.{HaveNumbers}
use Rattle.model_defs.specs.Valid.{IsValid}
use Rattle.rank_share.specs.declared.share.Share.{Share}
use Rattle.rank_share.specs.Shares.{share as share_of}

-- A valid job, files that fit it and whose integers have numbers of the kind, one of the ranks, and the share of the files
-- that it is given.
pub record IsRankInput {S : Type 0} (F : Conversions S) (job : Job) (files : List File) (me : ℕ) (share : Share) : Type 0 where
  pub valid : IsValid job
  pub fitting : IsFitting job files
  pub numbers : HaveNumbers F job files
  pub rank : me < job.ranks
  pub given : share ≡ share_of job files me
