use Rattle.tables.proofs.Cells.{table_of-found, found-unique}
use Rattle.tables.proofs.laws.ordered_cells_are_their_matrix.Goals as goal

pub returns-clause-sum : goal.returns-clause-sum
returns-clause-sum g c = λ R cells o. table_of-found R cells o

pub returns-clause-only : goal.returns-clause-only
returns-clause-only g c = λ xs ys o p e. found-unique xs ys o p e
