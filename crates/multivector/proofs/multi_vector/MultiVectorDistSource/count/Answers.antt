use Rattle.multivector.proofs.Cells.{count-clause, ascending-clause}
use Rattle.multivector.proofs.multi_vector.MultiVectorDistSource.count.Goals as goal

pub returns-clause-count : goal.returns-clause-count
returns-clause-count g c = count-clause g.S.Scalar.semiring _ c.args.self.now c.self.view_is c.self.invariant c.args.lid c.requires.known

pub returns-clause-ascending : goal.returns-clause-ascending
returns-clause-ascending g c = ascending-clause g.S.Scalar.semiring _ c.args.self.now c.self.view_is c.self.invariant c.args.lid c.requires.known
