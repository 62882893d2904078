use Rattle.vector_moves.proofs.Wanted.{exported-moves, offered-moves}
use Rattle.vector_moves.proofs.laws.exports_move_rows.Goals as goal

pub returns-clause-own : goal.returns-clause-own
returns-clause-own c = exported-moves

pub returns-clause-offered : goal.returns-clause-offered
returns-clause-offered c = offered-moves
