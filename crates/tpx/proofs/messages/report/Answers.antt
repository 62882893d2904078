use Rattle.tpx.proofs.Pieces.{says-written}
use Rattle.tpx.proofs.messages.report.Goals as goal

pub returns-in-Err-clause-says : goal.returns-in-Err-clause-says
returns-in-Err-clause-says g c = rw c.in-Err.is (says-written g.E.Sink.told g.E.Sink.faults _ _ _ _ c.write_message.ensures)
