use Rattle.std.proofs.Common.{length, Some, ap, ◌∙◌, arith}
use Rattle.std.proofs.lemmas.List.{take_all}
use Rattle.tables.specs.Sums.{total, if_there, both_or_one}
use Rattle.map_core.specs.Layouts.{local_index}
use Rattle.crs_matrix.specs.Matrices.{number_at_place}
use Rattle.multivector.specs.Vectors.{vector_table}
use Rattle.model_defs.specs.Operations.{times_there}
use Rattle.spmv.proofs.Rows.{below-at, row-more, row-sum, row-term}
use Rattle.spmv.proofs.apply.row_sum.Goals as goal

pub cell-requires-clause-row : goal.cell-requires-clause-row
cell-requires-clause-row g c = below-at (length c.args.x.now.map) c.args.columns.now c.loop-at.at c.requires.within c.loop-at-test.true

pub loop-at-preserved : goal.loop-at-preserved
loop-at-preserved g c =
    let R = g.S.Scalar.semiring in
    let x = vector_table c.args.x.now in
    let columns = c.args.columns.now in
    let numbers = c.args.numbers.now in
    let at = c.loop-at.at in
    let term = row-term g.met.S.Scalar.laws columns numbers x c.args.col at c.index-numbers-at.result c.cell.result c.requires.ascend c.loop-at-test.true c.requires.as_many c.index-numbers-at.is c.cell.ensures.cell in
    ap Some (c.add-sum.ensures ∙ ap (λ p. R.plus c.loop-at.sum p) c.mul.ensures)
    ∙ row-more g.met.S.Scalar.laws (λ k. times_there R (number_at_place numbers (local_index columns k)) (x k c.args.col)) columns at c.args.first c.loop-at.sum (R.times c.index-numbers-at.result c.cell.result)
    c.loop-at-test.true c.loop-at.invariant term

pub returns : goal.returns
returns g c =
    let R = g.S.Scalar.semiring in
    let x = vector_table c.args.x.now in
    let columns = c.args.columns.now in
    let numbers = c.args.numbers.now in
    record {
      sum = c.loop-at.invariant
          ∙ ap (both_or_one R.plus (Some c.args.first))
          (ap (total (if_there R.plus) (λ k. times_there R (number_at_place numbers (local_index columns k)) (x k c.args.col))) (take_all c.loop-at.at columns (let past = c.loop-at-test.false in omega arith))
          ∙ row-sum g.met.S.Scalar.laws columns numbers x c.args.col (length c.args.x.now.map) c.requires.ascend c.requires.within);
    }
