use Rattle.std.proofs.Common.{ap, codes, subst, sym, ◌∙◌}
use Rattle.outside.specs.Writes.{Writes}
use Rattle.tpx.specs.Messages.{refusal_line}
use Rattle.tpx.specs.Refusals.{job_fault_text, naming}
use Rattle.tpx.proofs.refusals.write_job_fault.Goals as goal

pub returns-in-UnknownName : goal.returns-in-UnknownName
returns-in-UnknownName g c =
    subst (λ text. Writes g.E.Sink.told g.E.Sink.faults c.args.err.now c.write_fault-in-UnknownName.new.err (refusal_line c.args.file.now text) c.write_fault-in-UnknownName.result)
    (ap (naming (codes "UnknownName")) c.as_str-in-UnknownName.ensures.text ∙ sym (ap job_fault_text c.in-UnknownName.is)) c.write_fault-in-UnknownName.ensures

pub returns-in-MapMismatch : goal.returns-in-MapMismatch
returns-in-MapMismatch g c =
    subst (λ text. Writes g.E.Sink.told g.E.Sink.faults c.args.err.now c.write_numbered.new.err (refusal_line c.args.file.now text) c.write_numbered.result)
    (sym (ap job_fault_text c.in-MapMismatch.is)) c.write_numbered.ensures
