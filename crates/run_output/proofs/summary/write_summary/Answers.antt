use Rattle.outside.proofs.Taking.{Writes-held}
use Rattle.run_output.specs.Summaries.{summary_text}
use Rattle.run_output.proofs.Steps.{front-empty, put-only}
use Rattle.run_output.proofs.summary.write_summary.Goals as goal

pub returns-in_err-put_summary : goal.returns-in_err-put_summary
returns-in_err-put_summary g c =
    put-only g.O.Sink.told g.O.Sink.faults _ _ c.new-held.result.items (summary_text c.args.summary.now) _ c.from_residual.ensures.0 c.new-held.ensures
    c.in_err-put_summary.ensures.prefix c.in_err-put_summary.ensures.fault c.in_err-put_summary.ensures.never_falls

pub returns : goal.returns
returns g c =
    Writes-held g.O.Sink.told g.O.Sink.faults _ c.put_summary.new.out _ c.put_summary.new.held.items _ c.flush.result
    (front-empty _ _ _ c.new-held.result.items (summary_text c.args.summary.now) c.new-held.ensures c.in_ok-put_summary.ensures.taken)
    c.in_ok-put_summary.ensures.no_fault c.flush.ensures.writes
