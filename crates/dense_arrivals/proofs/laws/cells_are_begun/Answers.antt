use Rattle.dense_arrivals.proofs.Begun.{cells-are-begun, serving-plans-can-begin}
use Rattle.dense_arrivals.proofs.laws.cells_are_begun.Goals as goal

pub returns-clause-plans : goal.returns-clause-plans
returns-clause-plans g c = serving-plans-can-begin

pub returns-clause-begun : goal.returns-clause-begun
returns-clause-begun g c = cells-are-begun g.S.Scalar.semiring g.S.Scalar.conversions
