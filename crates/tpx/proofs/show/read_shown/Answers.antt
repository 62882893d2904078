use Rattle.std.proofs.Common.{sym, subst, arith}
use Rattle.mm_text.specs.Reading.{file_of}
use Rattle.gathered_rows.proofs.Numbers.{CanBeGathered-weighed}
use Rattle.tpx.specs.declared.fault.Fault.{Fault}
use Rattle.tpx.specs.Steps.{StopsReading}
use Rattle.tpx.proofs.Reading.{Reads-same, unread-from, unread-to, stops_reading}
use Rattle.tpx.proofs.show.read_shown.Goals as goal

pub returns-in-Ok-clause-reads : goal.returns-in-Ok-clause-reads
returns-in-Ok-clause-reads g c = Reads-same _ _ _ _ _ _ _ (λ h. absurd h) (λ e. absurd (cc)) c.in-Ok.ensures.reads

pub returns-in-Ok-clause-sound : goal.returns-in-Ok-clause-sound
returns-in-Ok-clause-sound g c = CanBeGathered-weighed (file_of c.in-Ok.found) c.in-Ok.ensures.sound (let rows = c.in-Ok.ensures.limits.rows in omega arith)

pub returns-in-Err-clause-reads : goal.returns-in-Err-clause-reads
returns-in-Err-clause-reads g c =
    rw c.fault_of.ensures
    (Reads-same _ _ _ _ _ _ _ (unread-from _ c.args.name c.in-Err.fault) (unread-to _ c.args.name c.in-Err.fault) c.in-Err.ensures.reads)

pub returns-in-Err-clause-fault : goal.returns-in-Err-clause-fault
returns-in-Err-clause-fault g c =
    subst (λ (f : Fault). StopsReading (g.F.Files.told c.args.files.now) c.args.name.now f) (sym c.fault_of.ensures)
    (stops_reading (g.F.Files.told c.args.files.now) c.args.name c.in-Err.fault c.in-Err.ensures.fault)
