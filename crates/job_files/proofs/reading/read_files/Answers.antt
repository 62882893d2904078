use Rattle.std.proofs.Common.{[]}
use Rattle.job_files.specs.Walk.{most_entries}
use Rattle.job_files.specs.Wanted.{wanted}
use Rattle.job_files.proofs.Walked.{walked-memory, walked-none}
use Rattle.job_files.proofs.reading.read_files.Goals as goal

pub returns-in-Err-clause-gives : goal.returns-in-Err-clause-gives
returns-in-Err-clause-gives g c =
    let told = g.F.Files.told c.args.files.now in
    walked-memory told c.args.held.now most_entries [] (wanted c.args.job.now) [] (walked-none told c.args.held.now most_entries c.requires)
