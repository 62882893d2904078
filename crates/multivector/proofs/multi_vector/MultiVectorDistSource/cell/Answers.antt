use Rattle.multivector.proofs.Cells.{known-row, known-column, cell-clause}
use Rattle.multivector.proofs.multi_vector.MultiVectorDistSource.cell.Goals as goal

pub place_of-requires-clause-row : goal.place_of-requires-clause-row
place_of-requires-clause-row g c = known-row g.S.Scalar.semiring c.args.self.now c.args.lid c.requires.known

pub place_of-requires-clause-column : goal.place_of-requires-clause-column
place_of-requires-clause-column g c = known-column g.S.Scalar.semiring c.args.self.now c.args.lid c.args.at c.requires.known c.requires.within

pub returns : goal.returns
returns g c =
    record {
      cell = cell-clause g.S.Scalar.semiring _ c.args.self.now c.self.view_is c.self.invariant c.args.lid c.args.at c.place_of.result c.index.result.now c.requires.known
          (known-column g.S.Scalar.semiring c.args.self.now c.args.lid c.args.at c.requires.known c.requires.within) c.place_of.ensures.place c.index.ensures;
    }
