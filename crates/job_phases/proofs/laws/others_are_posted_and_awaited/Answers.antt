use Rattle.job_phases.proofs.JobNames.{names-by-phase, others-posted, others-awaited}
use Rattle.job_phases.proofs.laws.others_are_posted_and_awaited.Goals as goal

pub returns : goal.returns
returns c = record { names = names-by-phase; posts = others-posted; awaits = others-awaited }
