use Rattle.std.proofs.Common.{◌≡◌, drop}
use Rattle.outside.specs.Writes.{HoldsBack}
use Rattle.tpx.specs.Messages.{joined}
use Rattle.tpx.proofs.messages.write_pieces.Given as goal

abbrev pub invariant-loop-piece : goal.invariant-loop-piece
invariant-loop-piece g l = record {
  held : HoldsBack (g.E.Sink.told l.fn.err) (g.E.Sink.told l.err) (joined (drop l.piece-index l.pieces)) (joined l.pieces);
  no_fault : g.E.Sink.faults l.err ≡ g.E.Sink.faults l.fn.err;
}
