use Rattle.rank_transfers.proofs.Imports.{imports-can-begin, own-rows-are-brought, rows-are-sent, rows-come}
use Rattle.rank_transfers.proofs.laws.imports_serve_jobs.Goals as goal

pub returns-clause-can_begin : goal.returns-clause-can_begin
returns-clause-can_begin g c = imports-can-begin

pub returns-clause-sent : goal.returns-clause-sent
returns-clause-sent g c = rows-are-sent

pub returns-clause-come : goal.returns-clause-come
returns-clause-come g c = rows-come

pub returns-clause-own : goal.returns-clause-own
returns-clause-own g c = own-rows-are-brought
