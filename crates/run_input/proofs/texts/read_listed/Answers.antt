use Rattle.std.proofs.Common.{rules, Option, Err, refl}
use Rattle.schedule.specs.declared.order.Order.{Order}
use Rattle.schedule.specs.Texts.{schedule_of}
use Rattle.run_input.specs.declared.fault.TextFault.TheVariants.{Schedule}
use Rattle.run_input.specs.declared.texts.TheConstants.{MOST_SCHEDULE_BYTES}
use Rattle.run_input.specs.declared.texts.ReadText.{ReadText}
use Rattle.run_input.specs.Walk.{or_refused}
use Rattle.run_input.proofs.Accepting.{schedule-refused, schedule-told}
use Rattle.run_input.proofs.Counting.{many-ends, quiet-stop}
use Rattle.run_input.proofs.texts.read_listed.Goals as goal

pub returns-in-Err-entries_in-clause-reads : goal.returns-in-Err-entries_in-clause-reads
returns-in-Err-entries_in-clause-reads g c =
    many-ends g.F.Files.told g.F.Files.faults _ _ c.in-Ok-read_front.bytes (Err c.in-Err-entries_in.fault)
    (quiet-stop (Order × Option ReadText) (or_refused c.args.name.now Schedule (schedule_of c.deref-2.result.now)) c.in-Err-entries_in.fault c.in-Err-entries_in.ensures)
    c.in-Ok-read_front.ensures.reads

pub returns-in-Err-entries_in-clause-fault : goal.returns-in-Err-entries_in-clause-fault
returns-in-Err-entries_in-clause-fault g c =
    schedule-refused (g.F.Files.told c.args.files.now) c.args.name.now c.in-Ok-read_front.bytes.items c.deref-2.result.now MOST_SCHEDULE_BYTES refl c.deref-2.ensures.value
    c.in-Ok-read_front.ensures.front c.args.job.now (λ same. absurd (search rules)) c.requires c.in-Err-entries_in.fault c.in-Err-entries_in.ensures

pub returns-clause-told : goal.returns-clause-told
returns-clause-told g c =
    schedule-told (g.F.Files.told c.args.files.now) c.args.name.now c.in-Ok-read_front.bytes.items c.deref-2.result.now MOST_SCHEDULE_BYTES refl c.deref-2.ensures.value
    c.in-Ok-read_front.ensures.front c.in-Ok-entries_in.entries.items c.in-Ok-entries_in.ensures
