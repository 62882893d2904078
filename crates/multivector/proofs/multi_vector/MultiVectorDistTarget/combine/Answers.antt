use Rattle.multivector.proofs.Cells.{in-cell, combine-clause, fixed-clause}
use Rattle.multivector.proofs.multi_vector.MultiVectorDistTarget.combine.Goals as goal

pub returns-clause-cell : goal.returns-clause-cell
returns-clause-cell g c =
    let place = in-cell c.args.self.now c.args.lid c.args.col c.requires.taken in
    combine-clause g.S.Scalar.semiring _ c.args.self.now c.self.view_is c.self.invariant c.args.mode c.args.lid c.args.col c.place_of-at.result c.vector_cell.result c.index.result.now c.args.value
    place.0 place.1 c.place_of-at.ensures.place c.index.ensures c.vector_cell.ensures.cell

pub returns-clause-fixed : goal.returns-clause-fixed
returns-clause-fixed g c = λ is. fixed-clause g.S.Scalar.semiring _ c.args.self.now c.self.view_is c.self.invariant
