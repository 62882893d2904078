use Rattle.dense_arrivals.proofs.CellLetters.{cells-are-content, cells-are-data, cells-are-full, cells-are-tables, cells-come-in-rows}
use Rattle.dense_arrivals.proofs.laws.cells_serve_jobs.Goals as goal

pub returns-clause-full : goal.returns-clause-full
returns-clause-full g c = cells-are-full

pub returns-clause-data : goal.returns-clause-data
returns-clause-data g c = cells-are-data

pub returns-clause-content : goal.returns-clause-content
returns-clause-content g c = cells-are-content g.S.Scalar.semiring g.S.Scalar.conversions

pub returns-clause-rows : goal.returns-clause-rows
returns-clause-rows g c = cells-come-in-rows g.S.Scalar.semiring g.S.Scalar.conversions

pub returns-clause-tables : goal.returns-clause-tables
returns-clause-tables g c = cells-are-tables g.S.Scalar.semiring g.S.Scalar.conversions
