use Rattle.std.proofs.Common.{◌≡◌, ◌++◌, map, take}
use Rattle.outside.specs.Writes.{HoldsBack}
use Rattle.mm_text.specs.Written.{lines_text, value_words}
use Rattle.mm_text.proofs.writing.text.write_values.Given as goal

abbrev pub invariant-loop-value : goal.invariant-loop-value
invariant-loop-value g l = record {
  held : HoldsBack (g.O.Sink.told l.fn.out) (g.O.Sink.told l.out) l.page.items
      (l.fn.page.items ++ lines_text (map value_words (take l.value-index l.values)));
  no_fault : g.O.Sink.faults l.out ≡ g.O.Sink.faults l.fn.out;
}
