use Rattle.std.proofs.Common.{◌≡◌, ◌++◌, drop, map}
use Rattle.outside.specs.Writes.{HoldsBack}
use Rattle.mm_text.specs.Written.{lines_text}
use Rattle.model_defs.specs.Traffic.{letter_line_words}
use Rattle.run_output.proofs.listing.put_letters.Given as goal

abbrev pub invariant-loop-line : goal.invariant-loop-line
invariant-loop-line g l = record {
  held : HoldsBack (g.O.Sink.told l.fn.out) (g.O.Sink.told l.out) (l.held.items ++ lines_text (map letter_line_words (drop l.line-index l.letters)))
      (l.fn.held.items ++ lines_text (map letter_line_words l.letters));
  no_fault : g.O.Sink.faults l.out ≡ g.O.Sink.faults l.fn.out;
}
