use Rattle.std.proofs.Common.{refl}
use Rattle.outside.proofs.Taking.{TakesPrefix-append, WritesAndHolds-failed}
use Rattle.run_output.proofs.Steps.{after-sent}
use Rattle.run_output.proofs.held.put.Goals as goal

pub returns-in_err-flush : goal.returns-in_err-flush
returns-in_err-flush g c =
    WritesAndHolds-failed _ g.O.Sink.faults _ _ _ _ _ _ c.from_residual.ensures.0 refl
    (TakesPrefix-append _ _ c.args.held.now.items c.args.bytes.now c.in_err-flush.ensures.writes.prefix)
    c.in_err-flush.ensures.writes.fault c.in_err-flush.ensures.writes.never_falls

pub returns : goal.returns
returns g c =
    after-sent g.O.Sink.told g.O.Sink.faults c.args.out.now c.flush.new.out c.put_first.new.out c.args.held.now.items _ c.args.bytes.now c.put_first.result
    c.in_ok-flush.ensures.writes.taken c.in_ok-flush.ensures.writes.no_fault c.put_first.ensures
