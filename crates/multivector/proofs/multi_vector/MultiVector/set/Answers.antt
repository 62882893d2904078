use Rattle.multivector.proofs.Cells.{set-clause}
use Rattle.multivector.proofs.multi_vector.MultiVector.set.Goals as goal

pub returns-clause-cell : goal.returns-clause-cell
returns-clause-cell g c =
    set-clause g.S.Scalar.semiring _ c.args.self.now c.self.view_is c.self.invariant c.args.lid c.args.col c.place_of-at.result c.args.value c.requires.row c.requires.column c.place_of-at.ensures.place
