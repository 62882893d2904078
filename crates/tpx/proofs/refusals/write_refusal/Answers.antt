use Rattle.std.proofs.Common.{ap, codes, subst, sym, ◌∙◌}
use Rattle.outside.specs.Writes.{Writes}
use Rattle.tpx.specs.Messages.{refusal_line}
use Rattle.tpx.specs.Refusals.{fault_text, naming}
use Rattle.tpx.proofs.refusals.write_refusal.Goals as goal

pub returns-in-SizeMismatch : goal.returns-in-SizeMismatch
returns-in-SizeMismatch g c =
    subst (λ text. Writes g.E.Sink.told g.E.Sink.faults c.args.err.now c.write_fault.new.err (refusal_line c.args.file.now text) c.write_fault.result)
    (ap (naming (codes "SizeMismatch")) c.as_str.ensures.text ∙ sym (ap fault_text c.in-SizeMismatch.is)) c.write_fault.ensures
