use Rattle.std.proofs.Common.{refl}
use Rattle.std.specs.List.{flat_map}
use Rattle.run_output.specs.Pages.{page_text}
use Rattle.tpx.specs.Running.{listed}
use Rattle.tpx.proofs.Pieces.{cut-short, then-written}
use Rattle.tpx.proofs.output.write_output.Goals as goal

pub returns-in-Err-clause-writes : goal.returns-in-Err-clause-writes
returns-in-Err-clause-writes g c =
    cut-short g.O.Sink.told g.O.Sink.faults _ _ (flat_map page_text c.args.output.now.pages.items) (listed c.args.traffic c.args.output.now) _ refl
    c.in-Err.ensures.writes.prefix c.in-Err.ensures.writes.fault c.in-Err.ensures.writes.never_falls

pub returns-clause-writes : goal.returns-clause-writes
returns-clause-writes g c =
    then-written g.O.Sink.told g.O.Sink.faults _ c.write_values.new.out _ (flat_map page_text c.args.output.now.pages.items) (listed c.args.traffic c.args.output.now) _
    c.in_default.ensures.writes.taken c.in_default.ensures.writes.no_fault c.write_listing.ensures.writes
