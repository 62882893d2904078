use Rattle.std.proofs.Common.{◌≡◌, Err, Some, sym, subst}
use Rattle.outside.specs.Letters.{no_letters}
use Rattle.message_play.specs.Plays.{wire_state}
use Rattle.run_words.specs.Seen.{words_view}
use Rattle.tpx.specs.Calls.{SomeCall, is_settled}
use Rattle.tpx.specs.Faults.{status_of}
use Rattle.tpx.specs.Steps.{Gives}
use Rattle.tpx.specs.Words.{run}
use Rattle.tpx.proofs.RunCalls.{call-played, call-stopped, call-written}
use Rattle.tpx.proofs.run.run_job.Goals as goal

pub returns-in-Err-clause-gives : goal.returns-in-Err-clause-gives
returns-in-Err-clause-gives g c =
    let before = wire_state g.W.Wire.pending g.W.Wire.posted g.W.Wire.taken g.W.Wire.given g.W.Wire.is_honest c.args.wire.now in
    let none : before.pending ≡ no_letters = λ i name. c.requires.nothing_pending name i in
    subst (λ f. SomeCall (g.F.Files.told c.args.files.now) (Some (run (words_view c.args.words))) (is_settled (status_of f)) before before (Gives g.O.Sink.told c.args.out.now c.args.out.now (Err f))) (sym c.fault_of.ensures)
    (call-stopped (g.F.Files.told c.args.files.now) g.O.Sink.told c.args.out.now (words_view c.args.words) before c.in-Err.fault none c.in-Err.ensures.gives)

pub returns-in-Err-play-clause-gives : goal.returns-in-Err-play-clause-gives
returns-in-Err-play-clause-gives g c =
    call-played (g.F.Files.told c.args.files.now) g.O.Sink.told c.args.out.now (words_view c.args.words) _ _ c.in-Ok.given c.in-Ok.ensures.gives c.in-Err-play.fault c.in-Err-play.ensures.played

pub returns-clause-gives : goal.returns-clause-gives
returns-clause-gives g c =
    call-written (g.F.Files.told c.args.files.now) g.O.Sink.told c.args.out.now (words_view c.args.words) _ _ c.in-Ok.given c.in-Ok.ensures.gives
    g.O.Sink.faults c.write_output.new.out c.in-Ok-play.outcome c.in-Ok-output_of.output c.write_output.result c.in-Ok-play.ensures.played c.in-Ok-output_of.ensures.output
    c.write_output.ensures.writes c.write_output.ensures.fault
