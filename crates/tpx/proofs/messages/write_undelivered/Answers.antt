use Rattle.std.proofs.Common.{refl}
use Rattle.std.specs.List.{flat_map}
use Rattle.tpx.specs.Messages.{letter_line, undelivered_line}
use Rattle.tpx.proofs.Pieces.{cut-short, then-written}
use Rattle.tpx.proofs.messages.write_undelivered.Goals as goal

pub returns-in-Err : goal.returns-in-Err
returns-in-Err g c =
    rw (← c.format.ensures.text)
    (cut-short g.E.Sink.told g.E.Sink.faults _ _ (undelivered_line c.format.result.now) (flat_map letter_line c.args.names.now) _ refl
    c.in-Err.ensures.prefix c.in-Err.ensures.fault c.in-Err.ensures.never_falls)

pub returns : goal.returns
returns g c =
    rw (← c.format.ensures.text)
    (then-written g.E.Sink.told g.E.Sink.faults _ _ _ (undelivered_line c.format.result.now) (flat_map letter_line c.args.names.now) _
    c.in_default.ensures.taken c.in_default.ensures.no_fault c.write_letters.ensures)
