use Rattle.plan_phases.proofs.Passing.{books_begin}
use Rattle.plan_phases.proofs.laws.books_begin.Goals as goal

pub returns : goal.returns
returns g c = books_begin g.S.Scalar.semiring g.S.Scalar.conversions
