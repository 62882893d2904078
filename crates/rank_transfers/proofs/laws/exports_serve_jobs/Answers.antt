use Rattle.rank_transfers.proofs.Exports.{exports-are-sent, exports-can-begin, exports-come, own-exports-are-brought}
use Rattle.rank_transfers.proofs.laws.exports_serve_jobs.Goals as goal

pub returns-clause-can_begin : goal.returns-clause-can_begin
returns-clause-can_begin g c = exports-can-begin

pub returns-clause-sent : goal.returns-clause-sent
returns-clause-sent g c = exports-are-sent

pub returns-clause-come : goal.returns-clause-come
returns-clause-come g c = exports-come

pub returns-clause-own : goal.returns-clause-own
returns-clause-own g c = own-exports-are-brought
