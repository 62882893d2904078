use Rattle.vector_moves.proofs.Reserved.{letters-find-room}
use Rattle.vector_moves.proofs.moving.ready.Goals as goal

pub returns-clause-room : goal.returns-clause-room
returns-clause-room g c = letters-find-room c.columns.result c.args.x.now.columns c.args.plan.exports c.args.pool.now c.ready.new.pool c.ready.result c.columns.ensures.columns c.ready.ensures.reserved
