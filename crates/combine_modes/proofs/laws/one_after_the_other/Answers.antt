use Rattle.combine_modes.proofs.Combining.{values-is, cell-is}
use Rattle.combine_modes.proofs.laws.one_after_the_other.Goals as goal

pub returns-clause-values : goal.returns-clause-values
returns-clause-values g c = λ mode fixed old values. values-is g.S.Scalar.semiring g.met.S.Scalar.laws mode fixed old values

pub returns-clause-some : goal.returns-clause-some
returns-clause-some g c = λ mode fixed old came. cell-is g.S.Scalar.semiring g.met.S.Scalar.laws mode fixed old came
