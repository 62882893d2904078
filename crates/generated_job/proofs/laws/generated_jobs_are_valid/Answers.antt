use Rattle.generated_job.proofs.Fitting.{fitting}
use Rattle.generated_job.proofs.Validity.{valid}
use Rattle.generated_job.proofs.laws.generated_jobs_are_valid.Goals as goal

pub returns : goal.returns
returns c = record {
  valid = valid c.args.size c.requires.few;
  fitting = fitting c.args.size c.requires.few;
}
