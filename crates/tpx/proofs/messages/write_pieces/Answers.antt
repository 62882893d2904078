use Rattle.std.proofs.Common.{◌∙◌, refl}
use Rattle.outside.proofs.Taking.{Writes-failed}
use Rattle.tpx.specs.Messages.{joined}
use Rattle.tpx.proofs.Pieces.{held-next, held-fault}
use Rattle.tpx.proofs.messages.write_pieces.Goals as goal

pub loop-piece-preserved : goal.loop-piece-preserved
loop-piece-preserved g c = record {
  held = held-next _ _ _ c.args.pieces.now c.loop-piece.piece-index _ c.as_bytes.result.now _ c.loop-piece-test.true c.as_bytes.ensures.value c.loop-piece.invariant.held c.in_default.ensures.taken;
  no_fault = c.in_default.ensures.no_fault ∙ c.loop-piece.invariant.no_fault;
}

pub returns-in-Err : goal.returns-in-Err
returns-in-Err g c =
    Writes-failed g.E.Sink.told g.E.Sink.faults c.args.err.now c.loop-piece.err c.write_all.new.out (joined c.args.pieces.now) _ refl c.loop-piece.invariant.no_fault
    (held-fault _ _ _ c.args.pieces.now c.loop-piece.piece-index _ c.as_bytes.result.now _ c.loop-piece-test.true c.as_bytes.ensures.value c.loop-piece.invariant.held c.in-Err.ensures.prefix)
    c.in-Err.ensures.fault c.in-Err.ensures.never_falls
