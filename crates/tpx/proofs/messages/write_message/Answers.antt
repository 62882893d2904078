use Rattle.std.proofs.Common.{ap, subst, sym, ◌∙◌}
use Rattle.outside.specs.Writes.{Writes}
use Rattle.tpx.specs.Faults.{message_of}
use Rattle.tpx.specs.Messages.{undelivered_message, unread_message}
use Rattle.tpx.proofs.messages.write_message.Goals as goal

pub returns-in-Unread : goal.returns-in-Unread
returns-in-Unread g c =
    subst (λ text. Writes g.E.Sink.told g.E.Sink.faults c.args.err.now c.write_unread.new.err text c.write_unread.result)
    (ap unread_message c.as_str.ensures ∙ sym (ap message_of c.in-Unread.is)) c.write_unread.ensures

pub returns-in-Unwritten : goal.returns-in-Unwritten
returns-in-Unwritten g c =
    subst (λ text. Writes g.E.Sink.told g.E.Sink.faults c.args.err.now c.write_all-in-Unwritten.new.out text c.write_all-in-Unwritten.result)
    (sym (ap message_of c.in-Unwritten.is)) c.write_all-in-Unwritten.ensures

pub returns-in-Undelivered : goal.returns-in-Undelivered
returns-in-Undelivered g c =
    subst (λ text. Writes g.E.Sink.told g.E.Sink.faults c.args.err.now c.write_undelivered.new.err text c.write_undelivered.result)
    (ap undelivered_message c.deref.ensures.value ∙ sym (ap message_of c.in-Undelivered.is)) c.write_undelivered.ensures

pub returns-in-Overflow : goal.returns-in-Overflow
returns-in-Overflow g c =
    subst (λ text. Writes g.E.Sink.told g.E.Sink.faults c.args.err.now c.write_all-in-Overflow.new.out text c.write_all-in-Overflow.result)
    (sym (ap message_of c.in-Overflow.is)) c.write_all-in-Overflow.ensures

pub returns-in-WireFailed : goal.returns-in-WireFailed
returns-in-WireFailed g c =
    subst (λ text. Writes g.E.Sink.told g.E.Sink.faults c.args.err.now c.write_all-in-WireFailed.new.out text c.write_all-in-WireFailed.result)
    (sym (ap message_of c.in-WireFailed.is)) c.write_all-in-WireFailed.ensures
