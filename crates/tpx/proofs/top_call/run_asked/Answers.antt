use Rattle.std.proofs.Common.{Some, subst, sym}
use Rattle.message_play.specs.Plays.{wire_state}
use Rattle.run_words.specs.Seen.{words_view}
use Rattle.tpx.specs.declared.words.Asked.{Asked}
use Rattle.tpx.specs.Asked.{asked}
use Rattle.tpx.specs.Calls.{SomeCall, is_settled}
use Rattle.tpx.specs.Faults.{result_status}
use Rattle.tpx.specs.Endings.{reads}
use Rattle.tpx.specs.Steps.{Gives, UnreadIsAmong}
use Rattle.tpx.proofs.RunCalls.{run-known}
use Rattle.tpx.proofs.GeneratedCalls.{named-played}
use Rattle.tpx.proofs.Sources.{SomeSource-any, SomeSource-weaker}
use Rattle.tpx.proofs.top_call.run_asked.Goals as goal

pub returns-in-Run-clause-known : goal.returns-in-Run-clause-known
returns-in-Run-clause-known g c =
    run-known (g.F.Files.told c.args.files.now) g.O.Sink.told c.args.out.now c.run_job.new.out (words_view c.in-Run.command) _ _ _ c.run_job.result c.run_job.ensures.gives

pub returns-in-Run-clause-named : goal.returns-in-Run-clause-named
returns-in-Run-clause-named g c =
    SomeSource-weaker _ _ _ (λ source h. subst (λ (a : Asked). UnreadIsAmong (reads (Some (asked a)) source) c.run_job.result) (sym c.in-Run.is) h) c.run_job.ensures.named

pub returns-in-Gen-clause-gives : goal.returns-in-Gen-clause-gives
returns-in-Gen-clause-gives g c =
    let before = wire_state g.W.Wire.pending g.W.Wire.posted g.W.Wire.taken g.W.Wire.given g.W.Wire.is_honest c.args.wire.now in
    let after = wire_state g.W.Wire.pending g.W.Wire.posted g.W.Wire.taken g.W.Wire.given g.W.Wire.is_honest c.run_generated.new.wire in
    subst (λ (a : Asked). SomeCall (g.F.Files.told c.args.files.now) (Some (asked a)) (is_settled (result_status c.run_generated.result)) before after (Gives g.O.Sink.told c.args.out.now c.run_generated.new.out c.run_generated.result))
    (sym c.in-Gen.is) (c.run_generated.ensures.gives (g.F.Files.told c.args.files.now))

pub returns-in-Gen-clause-named : goal.returns-in-Gen-clause-named
returns-in-Gen-clause-named g c = SomeSource-any _ _ (λ source. named-played _ c.run_generated.result c.run_generated.ensures.played)
