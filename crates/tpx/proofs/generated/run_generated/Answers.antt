use Rattle.std.proofs.Common.{◌≡◌}
use Rattle.outside.specs.Letters.{no_letters}
use Rattle.message_play.specs.Plays.{wire_state}
use Rattle.run_input.specs.Answering.{input_view}
use Rattle.tpx.proofs.GeneratedCalls.{generated-over, generated-played, generated-unmade, generated-written, lines-no_wire, lines-played, lines-rose, lines-touch, lines-wire, summed}
use Rattle.tpx.proofs.generated.run_generated.Goals as goal

pub returns-in-Err-clause-gives : goal.returns-in-Err-clause-gives
returns-in-Err-clause-gives g c = λ told.
    let before = wire_state g.W.Wire.pending g.W.Wire.posted g.W.Wire.taken g.W.Wire.given g.W.Wire.is_honest c.args.wire.now in
    let none : before.pending ≡ no_letters = λ i name. c.requires.nothing_pending name i in
    generated-unmade told g.O.Sink.told c.args.out.now c.args.size before c.in-Err.fault c.in-Err.ensures.fault none

pub returns-in-Err-play-clause-gives : goal.returns-in-Err-play-clause-gives
returns-in-Err-play-clause-gives g c = λ told.
    generated-played told g.O.Sink.told c.args.out.now c.args.size c.all_are_delivered.ensures _ _ (input_view c.in-Ok.given) c.in-Ok.ensures.input c.in-Err-play.fault
    c.in-Err-play.ensures.played

pub returns-in-Some-clause-gives : goal.returns-in-Some-clause-gives
returns-in-Some-clause-gives g c = λ told.
    generated-written told g.O.Sink.told c.args.out.now c.args.size c.all_are_delivered.ensures _ _ (input_view c.in-Ok.given) c.in-Ok.ensures.input
    g.O.Sink.faults c.write_lines.new.out c.in-Ok-play.outcome c.in-Some.summary c.write_lines.result c.in-Ok-play.ensures.played
    (summed c.args.size _ _ c.in-Ok-play.outcome.sheets.items _ c.in-Ok-play.outcome.letters.items c.in-Some.ensures c.deref.ensures.value c.deref-2.ensures.value)
    c.write_lines.ensures.writes c.write_lines.ensures.fault

pub returns-in-Some-clause-played : goal.returns-in-Some-clause-played
returns-in-Some-clause-played g c = lines-played c.write_lines.result c.write_lines.ensures.fault

pub returns-in-Some-clause-untouched : goal.returns-in-Some-clause-untouched
returns-in-Some-clause-untouched g c = lines-touch c.write_lines.result _ c.write_lines.ensures.fault

pub returns-in-Some-clause-unwritten : goal.returns-in-Some-clause-unwritten
returns-in-Some-clause-unwritten g c = lines-rose g.O.Sink.told g.O.Sink.faults c.args.out.now c.write_lines.new.out _ c.write_lines.result c.write_lines.ensures.writes

pub returns-in-Some-clause-wire_fault : goal.returns-in-Some-clause-wire_fault
returns-in-Some-clause-wire_fault g c = lines-wire c.write_lines.result _ c.write_lines.ensures.fault

pub returns-in-Some-clause-no_wire_fault : goal.returns-in-Some-clause-no_wire_fault
returns-in-Some-clause-no_wire_fault g c = lines-no_wire c.write_lines.result c.in-Ok-play.outcome _ c.in-Ok-play.ensures.no_wire_fault

pub returns-clause-gives : goal.returns-clause-gives
returns-clause-gives g c = λ told.
    generated-over told g.O.Sink.told c.args.out.now c.args.size c.all_are_delivered.ensures _ _ (input_view c.in-Ok.given) c.in-Ok.ensures.input
    c.in-Ok-play.outcome c.in-Ok-play.ensures.played
    (summed c.args.size _ _ c.in-Ok-play.outcome.sheets.items _ c.in-Ok-play.outcome.letters.items c.in-None.ensures c.deref.ensures.value c.deref-2.ensures.value)
