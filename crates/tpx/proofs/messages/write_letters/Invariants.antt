use Rattle.std.proofs.Common.{◌≡◌, drop}
use Rattle.std.specs.List.{flat_map}
use Rattle.outside.specs.Writes.{HoldsBack}
use Rattle.tpx.specs.Messages.{letter_line}
use Rattle.tpx.proofs.messages.write_letters.Given as goal

abbrev pub invariant-loop-name : goal.invariant-loop-name
invariant-loop-name g l = record {
  held : HoldsBack (g.E.Sink.told l.fn.err) (g.E.Sink.told l.err) (flat_map letter_line (drop l.name-index l.names)) (flat_map letter_line l.names);
  no_fault : g.E.Sink.faults l.err ≡ g.E.Sink.faults l.fn.err;
}
