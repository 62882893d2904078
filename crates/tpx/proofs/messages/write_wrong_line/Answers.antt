use Rattle.std.proofs.Common.{refl, ◌++◌}
use Rattle.tpx.specs.Messages.{letter_text, line_back, line_front}
use Rattle.tpx.proofs.Pieces.{cut-short, then-written}
use Rattle.tpx.proofs.messages.write_wrong_line.Goals as goal

pub returns-in-Err : goal.returns-in-Err
returns-in-Err g c =
    rw (← c.format.ensures.text)
    (cut-short g.E.Sink.told g.E.Sink.faults _ _ (line_front c.format.result.now) (letter_text c.args.name ++ line_back) _ refl
    c.in-Err.ensures.prefix c.in-Err.ensures.fault c.in-Err.ensures.never_falls)

pub returns : goal.returns
returns g c =
    rw (← c.format.ensures.text)
    (then-written g.E.Sink.told g.E.Sink.faults _ _ _ (line_front c.format.result.now) (letter_text c.args.name ++ line_back) _
    c.in_default.ensures.taken c.in_default.ensures.no_fault c.write_letter.ensures)
