use Rattle.combine_modes.proofs.Combining.{combine-order, combine-unpicked}
use Rattle.combine_modes.proofs.laws.any_order.Goals as goal

pub returns-clause-order : goal.returns-clause-order
returns-clause-order g c = λ mode fixed old values others picked h. combine-order g.S.Scalar.semiring g.met.S.Scalar.laws mode fixed old values others picked h

pub returns-clause-unpicked : goal.returns-clause-unpicked
returns-clause-unpicked g c = λ mode fixed old values picked other h. combine-unpicked g.S.Scalar.semiring mode fixed old values picked other h
