use Rattle.tables.proofs.Edits.{found-insert, found-replace, AreInOrder-insert}
use Rattle.tables.proofs.laws.edits_change_one_place.Goals as goal

pub returns-clause-place : goal.returns-clause-place
returns-clause-place g c = λ xs ys cell v new. (found-insert xs ys cell new, found-replace xs ys cell v new)

pub returns-clause-order : goal.returns-clause-order
returns-clause-order g c = λ xs ys cell o p before after. AreInOrder-insert xs ys cell o p before after
