use Rattle.job_phases.proofs.LocalJobs.{no-phases}
use Rattle.job_phases.proofs.laws.local_jobs_have_no_phases.Goals as goal

pub returns : goal.returns
returns c = no-phases
