use Rattle.std.proofs.Common.{◌≡◌, ◌++◌, drop}
use Rattle.outside.specs.Writes.{HoldsBack}
use Rattle.run_output.specs.Pieces.{joined}
use Rattle.run_output.proofs.held.put_pieces.Given as goal

abbrev pub invariant-loop-piece : goal.invariant-loop-piece
invariant-loop-piece g l = record {
  held : HoldsBack (g.O.Sink.told l.fn.out) (g.O.Sink.told l.out) (l.held.items ++ joined (drop l.piece-index l.pieces)) (l.fn.held.items ++ joined l.pieces);
  no_fault : g.O.Sink.faults l.out ≡ g.O.Sink.faults l.fn.out;
}
