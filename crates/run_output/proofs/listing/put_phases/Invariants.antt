use Rattle.std.proofs.Common.{◌≡◌, ◌++◌, drop}
use Rattle.outside.specs.Writes.{HoldsBack}
use Rattle.mm_text.specs.Written.{lines_text}
use Rattle.run_output.specs.Listings.{listing_lines}
use Rattle.run_output.proofs.listing.put_phases.Given as goal

abbrev pub invariant-loop-phase : goal.invariant-loop-phase
invariant-loop-phase g l = record {
  held : HoldsBack (g.O.Sink.told l.fn.out) (g.O.Sink.told l.out) (l.held.items ++ lines_text (listing_lines (drop l.phase-index l.phases) l.rest))
      (l.fn.held.items ++ lines_text (listing_lines l.phases l.letters));
  no_fault : g.O.Sink.faults l.out ≡ g.O.Sink.faults l.fn.out;
}
