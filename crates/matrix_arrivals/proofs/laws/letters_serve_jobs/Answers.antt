use Rattle.matrix_arrivals.proofs.Written.{letters-are-rows, letters-are-tables, rows-are-content}
use Rattle.matrix_arrivals.proofs.laws.letters_serve_jobs.Goals as goal

pub returns-clause-content : goal.returns-clause-content
returns-clause-content g c = rows-are-content g.S.Scalar.semiring g.S.Scalar.conversions

pub returns-clause-rows : goal.returns-clause-rows
returns-clause-rows g c = letters-are-rows g.S.Scalar.semiring g.S.Scalar.conversions

pub returns-clause-tables : goal.returns-clause-tables
returns-clause-tables g c = letters-are-tables g.S.Scalar.semiring g.S.Scalar.conversions
