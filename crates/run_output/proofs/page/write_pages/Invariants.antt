use Rattle.std.proofs.Common.{◌≡◌, drop}
use Rattle.std.specs.List.{flat_map}
use Rattle.outside.specs.Writes.{HoldsBack}
use Rattle.run_output.specs.Pages.{page_text}
use Rattle.run_output.proofs.page.write_pages.Given as goal

abbrev pub invariant-loop-page : goal.invariant-loop-page
invariant-loop-page g l = record {
  held : HoldsBack (g.O.Sink.told l.fn.out) (g.O.Sink.told l.out) (flat_map page_text (drop l.page-index l.pages)) (flat_map page_text l.pages);
  no_fault : g.O.Sink.faults l.out ≡ g.O.Sink.faults l.fn.out;
}
