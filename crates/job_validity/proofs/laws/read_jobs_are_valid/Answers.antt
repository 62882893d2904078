use Rattle.job_validity.proofs.ReadJobs.{read-jobs-are-valid}
use Rattle.job_validity.proofs.laws.read_jobs_are_valid.Goals as goal

pub returns : goal.returns
returns c = record { valid = read-jobs-are-valid }
