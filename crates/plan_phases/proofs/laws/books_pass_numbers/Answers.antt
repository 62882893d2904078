use Rattle.plan_phases.proofs.Passing.{books_pass_numbers, books_stay}
use Rattle.plan_phases.proofs.laws.books_pass_numbers.Goals as goal

pub returns : goal.returns
returns g c = record { entered = books_pass_numbers g.S.Scalar.semiring g.S.Scalar.conversions; absorbed = books_stay g.S.Scalar.semiring g.S.Scalar.conversions }
