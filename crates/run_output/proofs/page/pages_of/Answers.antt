use Rattle.std.proofs.Common.{sym}
use Rattle.std.proofs.lemmas.List.Elements.{All-push, All-tail, All-same}
use Rattle.model_defs.specs.Sheets.{sheet_text}
use Rattle.run_output.specs.Pages.{IsReady, IsWritable, page_text}
use Rattle.run_output.proofs.Pieces.{one-page}
use Rattle.run_output.proofs.page.pages_of.Goals as goal

pub loop-sheet-preserved : goal.loop-sheet-preserved
loop-sheet-preserved c =
    let step = c.in-Some.ensures.steps.0 in
    record {
      text = one-page page_text sheet_text c.loop-sheet.pages.items _ _ c.in_ok-page_of.field-0 c.in-Some.sheet _ _ c.in_ok-push.ensures.items step c.in_ok-page_of.ensures.text c.loop-sheet.invariant.text;
      ready = All-same IsReady _ _ c.in_ok-push.ensures.items (All-push IsReady c.loop-sheet.pages.items c.in_ok-page_of.field-0 c.loop-sheet.invariant.ready c.in_ok-page_of.ensures.ready);
      writable = All-tail IsWritable c.in-Some.sheet _ (All-same IsWritable _ _ (sym step) c.loop-sheet.invariant.writable);
    }
