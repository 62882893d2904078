use Rattle.std.proofs.Common.{◌∙◌}
use Rattle.outside.proofs.Taking.{WritesAndHolds-failed}
use Rattle.run_output.proofs.Steps.{put-next, put-fault}
use Rattle.run_output.proofs.Pieces.{joined-drop}
use Rattle.run_output.proofs.held.put_pieces.Goals as goal

pub returns-in_err-put : goal.returns-in_err-put
returns-in_err-put g c =
    let next = joined-drop c.args.pieces.now c.loop-piece.piece-index _ c.as_bytes.result.now c.loop-piece-test.true c.as_bytes.ensures.value in
    WritesAndHolds-failed _ g.O.Sink.faults _ c.loop-piece.out _ _ _ _ c.from_residual.ensures.0 c.loop-piece.invariant.no_fault
    (put-fault _ _ _ c.loop-piece.held.items c.as_bytes.result.now _ _ _ c.loop-piece.invariant.held next c.in_err-put.ensures.prefix)
    c.in_err-put.ensures.fault c.in_err-put.ensures.never_falls

pub loop-piece-preserved : goal.loop-piece-preserved
loop-piece-preserved g c =
    let next = joined-drop c.args.pieces.now c.loop-piece.piece-index _ c.as_bytes.result.now c.loop-piece-test.true c.as_bytes.ensures.value in
    record {
      held = put-next _ _ _ c.loop-piece.held.items c.as_bytes.result.now _ _ _ c.loop-piece.invariant.held next _ c.in_ok-put.ensures.taken;
      no_fault = c.in_ok-put.ensures.no_fault ∙ c.loop-piece.invariant.no_fault;
    }
