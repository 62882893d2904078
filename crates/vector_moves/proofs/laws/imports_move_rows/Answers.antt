use Rattle.vector_moves.proofs.Wanted.{own-moves, wanted-moves}
use Rattle.vector_moves.proofs.laws.imports_move_rows.Goals as goal

pub returns-clause-own : goal.returns-clause-own
returns-clause-own c = own-moves

pub returns-clause-wanted : goal.returns-clause-wanted
returns-clause-wanted c = wanted-moves
