use Rattle.matrix_moves.proofs.Empty.{new-matrices-are-empty}
use Rattle.matrix_moves.proofs.laws.new_matrices_are_empty.Goals as goal

pub returns : goal.returns
returns g c = new-matrices-are-empty
