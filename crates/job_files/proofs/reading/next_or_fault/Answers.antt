use Rattle.std.proofs.Common.{refl}
use Rattle.job_files.specs.Wanted.{seen, wanted_as}
use Rattle.job_files.proofs.Answering.{many-fault, many-found, names-fault}
use Rattle.job_files.proofs.reading.next_or_fault.Goals as goal

pub returns-in-Ok-clause-reads : goal.returns-in-Ok-clause-reads
returns-in-Ok-clause-reads g c =
    many-found g.F.Files.told g.F.Files.faults _ _ c.args.want.now.name c.in-Ok.found c.in-Ok.ensures.reads

pub returns-in-Err-clause-reads : goal.returns-in-Err-clause-reads
returns-in-Err-clause-reads g c =
    rw c.fault_of.ensures (many-fault g.F.Files.told g.F.Files.faults _ _ c.args.want.now.name c.in-Err.fault c.in-Err.ensures.reads)

pub returns-in-Err-clause-names : goal.returns-in-Err-clause-names
returns-in-Err-clause-names g c =
    names-fault (g.F.Files.told c.args.files.now) c.args.held.now (seen c.args.earlier.now) _ c.args.room (wanted_as c.args.want.now.kind c.args.want.now.name.now)
    c.args.want.now.name c.in-Err.fault c.fault_of.result refl c.fault_of.ensures c.in-Err.ensures.answers
