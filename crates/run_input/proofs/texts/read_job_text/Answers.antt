use Rattle.std.proofs.Common.{refl}
use Rattle.run_input.specs.declared.texts.TheConstants.{MOST_JOB_BYTES}
use Rattle.run_input.specs.Walk.{job_at}
use Rattle.run_input.proofs.Accepting.{job-is, job-refused, job-told}
use Rattle.run_input.proofs.Stopping.{some-source, stops-unread}
use Rattle.run_input.proofs.texts.read_job_text.Goals as goal

pub returns-in-Err-clause-fault : goal.returns-in-Err-clause-fault
returns-in-Err-clause-fault g c =
    some-source (g.F.Files.told c.args.files.now) _ (λ source agrees. stops-unread c.args.name.now (job_at source c.args.name.now) c.in-Err.fault c.in-Err.ensures.name)

pub returns-in-Err-job_in-clause-fault : goal.returns-in-Err-job_in-clause-fault
returns-in-Err-job_in-clause-fault g c =
    job-refused (g.F.Files.told c.args.files.now) c.args.name.now c.in-Ok.bytes.items c.deref.result.now MOST_JOB_BYTES refl c.deref.ensures.value c.in-Ok.ensures.front
    c.in-Err-job_in.fault c.in-Err-job_in.ensures

pub returns-clause-told : goal.returns-clause-told
returns-clause-told g c =
    job-told (g.F.Files.told c.args.files.now) c.args.name.now c.in-Ok.bytes.items c.deref.result.now MOST_JOB_BYTES refl c.deref.ensures.value c.in-Ok.ensures.front
    c.in-Ok-job_in.job c.in-Ok-job_in.ensures

pub returns-clause-job : goal.returns-clause-job
returns-clause-job g c = job-is c.args.name.now c.in-Ok.bytes.items c.deref.result.now c.in-Ok-job_in.job c.deref.ensures.value c.in-Ok-job_in.ensures
