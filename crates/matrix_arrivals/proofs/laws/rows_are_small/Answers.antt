use Rattle.matrix_arrivals.proofs.Few.{matrices-are-narrow, row-words-are-few, sent-rows-are-few}
use Rattle.matrix_arrivals.proofs.laws.rows_are_small.Goals as goal

pub returns-clause-sent : goal.returns-clause-sent
returns-clause-sent c = sent-rows-are-few

pub returns-clause-narrow : goal.returns-clause-narrow
returns-clause-narrow c = matrices-are-narrow

pub returns-clause-words : goal.returns-clause-words
returns-clause-words c = row-words-are-few
