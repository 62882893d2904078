-- The laws of the jobs that are read.
use Rattle.std.specs.Prelude.{◌≡◌, ℕ, List, Ok}
use Rattle.model_defs.specs.declared.job.Job.{Job}
use Rattle.model_defs.specs.Valid.{IsValid}
use Rattle.job_text.specs.Whole.{job_of}

-- A job that a text gives is valid.
abbrev pub ReadJobsAreValid : Type 0
ReadJobsAreValid = (text : List ℕ) (job : Job) → job_of text ≡ Ok job → IsValid job
