use Rattle.std.proofs.Common.{◌≡◌, ◌++◌, All}
use Rattle.std.specs.List.{flat_map}
use Rattle.std.specs.Vec.Iter.{into_iter_items}
use Rattle.model_defs.specs.Sheets.{sheet_text}
use Rattle.run_output.specs.Pages.{IsReady, IsWritable, page_text}
use Rattle.run_output.proofs.page.pages_of.Given as goal

abbrev pub invariant-loop-sheet : goal.invariant-loop-sheet
invariant-loop-sheet l = record {
  text : flat_map page_text l.pages.items ++ flat_map sheet_text (into_iter_items l.sheet-iterator) ≡ flat_map sheet_text l.fn.sheets.items;
  ready : All IsReady l.pages.items;
  writable : All IsWritable (into_iter_items l.sheet-iterator);
}
