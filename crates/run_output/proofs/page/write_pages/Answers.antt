use Rattle.std.proofs.Common.{◌∙◌}
use Rattle.outside.proofs.Taking.{Writes-failed}
use Rattle.run_output.specs.Pages.{page_text}
use Rattle.run_output.proofs.Steps.{left-next, left-fault}
use Rattle.run_output.proofs.Pieces.{flat_map-item}
use Rattle.run_output.proofs.page.write_pages.Goals as goal

pub returns-in_err-write_page : goal.returns-in_err-write_page
returns-in_err-write_page g c =
    Writes-failed _ g.O.Sink.faults _ c.loop-page.out _ _ _ c.from_residual.ensures.0 c.loop-page.invariant.no_fault
    (left-fault _ _ _ _ _ _ _ c.loop-page.invariant.held (flat_map-item page_text c.args.pages.now c.loop-page.page-index c.page-item.result c.loop-page-test.true c.page-item.is) c.in_err-write_page.ensures.prefix)
    c.in_err-write_page.ensures.fault c.in_err-write_page.ensures.never_falls

pub loop-page-preserved : goal.loop-page-preserved
loop-page-preserved g c = record {
  held = left-next _ _ _ _ _ _ _ c.loop-page.invariant.held (flat_map-item page_text c.args.pages.now c.loop-page.page-index c.page-item.result c.loop-page-test.true c.page-item.is) c.in_ok-write_page.ensures.taken;
  no_fault = c.in_ok-write_page.ensures.no_fault ∙ c.loop-page.invariant.no_fault;
}
