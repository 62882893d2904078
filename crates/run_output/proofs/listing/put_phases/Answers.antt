use Rattle.std.proofs.Common.{◌∙◌}
use Rattle.outside.proofs.Taking.{WritesAndHolds-failed}
use Rattle.run_output.proofs.Steps.{put-next, put-fault}
use Rattle.run_output.proofs.Pieces.{listing-drop}
use Rattle.run_output.proofs.listing.put_phases.Goals as goal

pub returns-in_err-put_phase_with : goal.returns-in_err-put_phase_with
returns-in_err-put_phase_with g c =
    let next = listing-drop c.args.phases.now c.loop-phase.phase-index c.phase-item.result c.loop-phase.rest.now _ _ c.loop-phase-test.true c.phase-item.is c.split_by_phase.ensures.these c.split_by_phase.ensures.others in
    WritesAndHolds-failed _ g.O.Sink.faults _ c.loop-phase.out _ _ _ _ c.from_residual.ensures.0 c.loop-phase.invariant.no_fault
    (put-fault _ _ _ c.loop-phase.held.items _ _ _ _ c.loop-phase.invariant.held next c.in_err-put_phase_with.ensures.prefix)
    c.in_err-put_phase_with.ensures.fault c.in_err-put_phase_with.ensures.never_falls

pub loop-phase-preserved : goal.loop-phase-preserved
loop-phase-preserved g c =
    let next = listing-drop c.args.phases.now c.loop-phase.phase-index c.phase-item.result c.loop-phase.rest.now _ _ c.loop-phase-test.true c.phase-item.is c.split_by_phase.ensures.these c.split_by_phase.ensures.others in
    record {
      held = put-next _ _ _ c.loop-phase.held.items _ _ _ _ c.loop-phase.invariant.held next _ c.in_ok-put_phase_with.ensures.taken;
      no_fault = c.in_ok-put_phase_with.ensures.no_fault ∙ c.loop-phase.invariant.no_fault;
    }
