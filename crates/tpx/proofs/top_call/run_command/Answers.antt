use Rattle.std.proofs.Common.{◌≡◌, None, Option, Some, rules, subst}
use Rattle.outside.specs.Letters.{no_letters}
use Rattle.message_play.specs.Plays.{wire_state}
use Rattle.tpx.specs.Asked.{asked}
use Rattle.tpx.specs.Endings.{command_of, reads}
use Rattle.tpx.specs.Steps.{UnreadIsAmong}
use Rattle.tpx.specs.Words.{Command}
use Rattle.tpx.proofs.RunCalls.{call-none, call-unread}
use Rattle.tpx.proofs.Sources.{SomeSource-any, SomeSource-weaker}
use Rattle.tpx.proofs.top_call.run_command.Goals as goal

pub returns-in-Ok-Some-clause-named : goal.returns-in-Ok-Some-clause-named
returns-in-Ok-Some-clause-named g c =
    let e : Some (asked c.in-Ok-Some.command) ≡ command_of c.args.words.now = search rules in
    SomeSource-weaker _ _ _ (λ source h. subst (λ (d : Option Command). UnreadIsAmong (reads d source) c.run_asked.result) e h) c.run_asked.ensures.named

pub returns-in-Ok-None-clause-gives : goal.returns-in-Ok-None-clause-gives
returns-in-Ok-None-clause-gives g c =
    let e : None ≡ command_of c.args.words.now = search rules in
    call-none (g.F.Files.told c.args.files.now) g.O.Sink.told c.args.out.now _ (command_of c.args.words.now) _ e

pub returns-in-Ok-None-clause-named : goal.returns-in-Ok-None-clause-named
returns-in-Ok-None-clause-named g c = SomeSource-any _ _ (λ source. tt)

pub returns-in-Err-clause-gives : goal.returns-in-Err-clause-gives
returns-in-Err-clause-gives g c =
    let before = wire_state g.W.Wire.pending g.W.Wire.posted g.W.Wire.taken g.W.Wire.given g.W.Wire.is_honest c.args.wire.now in
    let none : before.pending ≡ no_letters = λ i name. c.requires.nothing_pending name i in
    call-unread (g.F.Files.told c.args.files.now) g.O.Sink.told c.args.out.now before (command_of c.args.words.now) none

pub returns-in-Err-clause-named : goal.returns-in-Err-clause-named
returns-in-Err-clause-named g c = SomeSource-any _ _ (λ source. tt)
