use Rattle.run_input.proofs.Copies.{fault-among}
use Rattle.run_input.proofs.Holding.{held-memory}
use Rattle.run_input.proofs.found.read_beside.Goals as goal

pub returns-in-Err-clause-gives : goal.returns-in-Err-clause-gives
returns-in-Err-clause-gives g c = held-memory (g.F.Files.told c.args.files.now) c.args.held.now c.args.job.now c.requires

pub files_fault-requires : goal.files_fault-requires
files_fault-requires g c =
    fault-among c.in-Err-read_files.ensures.gives.source c.args.job.now c.in-Ok.names.items c.in-Err-read_files.fault c.in-Ok.ensures
    c.in-Err-read_files.ensures.gives.passes
