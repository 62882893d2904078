use Rattle.std.proofs.Common.{◌≡◌, ◌++◌, map, take}
use Rattle.outside.specs.Writes.{HoldsBack}
use Rattle.mm_text.specs.Written.{lines_text, cell_words}
use Rattle.mm_text.proofs.writing.text.write_cells.Given as goal

abbrev pub invariant-loop-cell : goal.invariant-loop-cell
invariant-loop-cell g l = record {
  held : HoldsBack (g.O.Sink.told l.fn.out) (g.O.Sink.told l.out) l.page.items
      (l.fn.page.items ++ lines_text (map cell_words (take l.cell-index l.cells)));
  no_fault : g.O.Sink.faults l.out ≡ g.O.Sink.faults l.fn.out;
}
