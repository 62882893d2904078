use Rattle.std.proofs.Common.{◌≡◌, ◌⊎◌, List, ℕ, ap, subst, sym}
use Rattle.tpx.specs.Calls.{is_settled}
use Rattle.tpx.specs.Endings.{command_of, reads_of}
use Rattle.tpx.specs.Streams.{Says}
use Rattle.tpx.specs.Steps.{MayHaveRun}
use Rattle.tpx.proofs.Sources.{SomeSource-weaker}
use Rattle.tpx.proofs.Ended.{SomeCall-weaker, ends, written, prefix, refusal, left, wrong, unread, usage, none, untouched, no_read, no_wire, wired, failed, unfailed, quiet, memory, no_words, unwritten, over, wire}
use Rattle.tpx.proofs.top_call.top.Goals as goal

pub returns-clause-ends : goal.returns-clause-ends
returns-clause-ends g c = SomeCall-weaker _ _ _ _ _ _ _ _ (sym (ap is_settled c.report.ensures.status)) (ends g.O.Sink.told c.args.out.now c.run_command-ended.new.out c.run_command-ended.result _ c.report.ensures.status) c.run_command-ended.ensures.gives

pub returns-clause-written : goal.returns-clause-written
returns-clause-written g c = λ zero. SomeCall-weaker _ _ _ _ _ _ _ _ (sym (ap is_settled c.report.ensures.status)) (written g.O.Sink.told c.args.out.now c.run_command-ended.new.out c.run_command-ended.result _ c.report.ensures.status zero) c.run_command-ended.ensures.gives

pub returns-clause-prefix : goal.returns-clause-prefix
returns-clause-prefix g c = λ four. SomeCall-weaker _ _ _ _ _ _ _ _ (sym (ap is_settled c.report.ensures.status)) (prefix g.O.Sink.told c.args.out.now c.run_command-ended.new.out c.run_command-ended.result _ c.report.ensures.status four) c.run_command-ended.ensures.gives

pub returns-clause-refused_message : goal.returns-clause-refused_message
returns-clause-refused_message g c = λ five. SomeCall-weaker _ _ _ _ _ _ _ _ (sym (ap is_settled c.report.ensures.status)) (refusal g.O.Sink.told c.args.out.now c.run_command-ended.new.out g.E.Sink.told g.E.Sink.faults c.args.err.now c.report.new.err c.run_command-ended.result _ c.report.ensures.status five c.report.ensures.says) c.run_command-ended.ensures.gives

pub returns-clause-undelivered_message : goal.returns-clause-undelivered_message
returns-clause-undelivered_message g c = λ six. SomeCall-weaker _ _ _ _ _ _ _ _ (sym (ap is_settled c.report.ensures.status)) (left g.O.Sink.told c.args.out.now c.run_command-ended.new.out g.E.Sink.told g.E.Sink.faults c.args.err.now c.report.new.err c.run_command-ended.result _ c.report.ensures.status six c.report.ensures.says) c.run_command-ended.ensures.gives

pub returns-clause-wrong_line_message : goal.returns-clause-wrong_line_message
returns-clause-wrong_line_message g c = λ eight. SomeCall-weaker _ _ _ _ _ _ _ _ (sym (ap is_settled c.report.ensures.status)) (wrong g.O.Sink.told c.args.out.now c.run_command-ended.new.out g.E.Sink.told g.E.Sink.faults c.args.err.now c.report.new.err c.run_command-ended.result _ c.report.ensures.status eight c.report.ensures.says) c.run_command-ended.ensures.gives

pub returns-clause-usage : goal.returns-clause-usage
returns-clause-usage g c = usage c.run_command-ended.result _ _ c.report.ensures.status c.run_command-ended.ensures.usage

pub returns-clause-no_command : goal.returns-clause-no_command
returns-clause-no_command g c = λ is. none c.run_command-ended.result _ _ c.report.ensures.status (c.run_command-ended.ensures.no_command is)

pub returns-clause-untouched : goal.returns-clause-untouched
returns-clause-untouched g c = untouched c.run_command-ended.result _ _ c.report.ensures.status c.run_command-ended.ensures.untouched

pub returns-clause-quiet : goal.returns-clause-quiet
returns-clause-quiet g c = λ zero. quiet c.run_command-ended.result _ _ c.report.ensures.status zero c.report.ensures.quiet

pub returns-clause-memory_message : goal.returns-clause-memory_message
returns-clause-memory_message g c = λ one. memory (λ (m : List ℕ). Says g.E.Sink.told g.E.Sink.faults c.args.err.now c.report.new.err m) c.run_command-ended.result _ c.report.ensures.status one c.report.ensures.says

pub returns-clause-usage_message : goal.returns-clause-usage_message
returns-clause-usage_message g c = λ two. no_words (λ (m : List ℕ). Says g.E.Sink.told g.E.Sink.faults c.args.err.now c.report.new.err m) c.run_command-ended.result _ c.report.ensures.status two c.report.ensures.says

pub returns-clause-unwritten_message : goal.returns-clause-unwritten_message
returns-clause-unwritten_message g c = λ four. unwritten (λ (m : List ℕ). Says g.E.Sink.told g.E.Sink.faults c.args.err.now c.report.new.err m) c.run_command-ended.result _ c.report.ensures.status four c.report.ensures.says

pub returns-clause-overflow_message : goal.returns-clause-overflow_message
returns-clause-overflow_message g c = λ seven. over (λ (m : List ℕ). Says g.E.Sink.told g.E.Sink.faults c.args.err.now c.report.new.err m) c.run_command-ended.result _ c.report.ensures.status seven c.report.ensures.says

pub returns-clause-wire_message : goal.returns-clause-wire_message
returns-clause-wire_message g c = λ nine. wire (λ (m : List ℕ). Says g.E.Sink.told g.E.Sink.faults c.args.err.now c.report.new.err m) c.run_command-ended.result _ c.report.ensures.status nine c.report.ensures.says

pub returns-clause-unread_message : goal.returns-clause-unread_message
returns-clause-unread_message g c = λ three.
    SomeSource-weaker _ _ _ (λ source h. unread g.E.Sink.told g.E.Sink.faults c.args.err.now c.report.new.err _ _ (reads_of c.args.words.now source) c.run_command-ended.result _ c.report.ensures.status three c.report.ensures.says c.run_command-ended.ensures.unread h)
    c.run_command-ended.ensures.named

pub returns-clause-no_read_fault : goal.returns-clause-no_read_fault
returns-clause-no_read_fault g c = no_read c.run_command-ended.result _ _ c.report.ensures.status c.run_command-ended.ensures.no_read_fault

pub returns-clause-unwritten : goal.returns-clause-unwritten
returns-clause-unwritten g c = λ four. failed c.run_command-ended.result _ _ c.report.ensures.status four c.run_command-ended.ensures.unwritten

pub returns-clause-no_write_fault : goal.returns-clause-no_write_fault
returns-clause-no_write_fault g c = unfailed g.O.Sink.faults c.args.out.now c.run_command-ended.new.out c.run_command-ended.result _ c.report.ensures.status c.run_command-ended.ensures.untouched c.run_command-ended.ensures.no_write_fault

pub returns-clause-wire_fault : goal.returns-clause-wire_fault
returns-clause-wire_fault g c = λ nine. wired c.run_command-ended.result _ _ c.report.ensures.status nine c.run_command-ended.ensures.wire_fault

pub returns-clause-no_wire_fault : goal.returns-clause-no_wire_fault
returns-clause-no_wire_fault g c = no_wire c.run_command-ended.result _ _ c.report.ensures.status c.run_command-ended.ensures.no_wire_fault

pub returns-clause-same_wire : goal.returns-clause-same_wire
returns-clause-same_wire g c =
    subst (λ (s : ℕ). MayHaveRun (command_of c.args.words.now) s ⊎ (c.run_command-ended.new.wire ≡ c.args.wire.now)) (sym c.report.ensures.status) c.run_command-ended.ensures.same_wire
