use Rattle.std.proofs.Common.{map}
use Rattle.mm_text.specs.Reading.{file_of}
use Rattle.model_defs.specs.Machine.{job_protocol}
use Rattle.rank_sim.proofs.running.run_with.Given as goal

abbrev pub ghost-run_by : goal.ghost-run_by
ghost-run_by g x = job_protocol g.S.Scalar.semiring g.S.Scalar.conversions x.job.now.value (map file_of x.files.now)
