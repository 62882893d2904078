use Rattle.tables.proofs.Tables.{table_of-IsPermutation, table_of-append, table_of-push}
use Rattle.tables.proofs.laws.cells_add_up.Goals as goal

pub returns-clause-order : goal.returns-clause-order
returns-clause-order g c = λ R law xs ys h. table_of-IsPermutation law xs ys h

pub returns-clause-lists : goal.returns-clause-lists
returns-clause-lists g c = λ R law xs ys i j. table_of-append law xs ys i j

pub returns-clause-one : goal.returns-clause-one
returns-clause-one g c = λ R law cells cell. table_of-push law cells cell
