use Rattle.std.proofs.Common.{length, ap, ◌∙◌, arith}
use Rattle.multivector.specs.Vectors.{vector_table}
use Rattle.spmv.specs.Applied.{row_product}
use Rattle.spmv.proofs.Rows.{columns-done, columns-first, columns-more, row-none, vector-none}
use Rattle.spmv.proofs.apply.apply_row.Goals as goal

pub returns-then-columns-eq1-clause-row : goal.returns-then-columns-eq1-clause-row
returns-then-columns-eq1-clause-row g c =
    let R = g.S.Scalar.semiring in
    let x = vector_table c.args.x.now in
    let p = row_product R (length c.args.x.now.map) c.args.columns.now c.args.numbers.now x in
    let one = c.if-columns-eq1.true in
    let many = c.columns.ensures.columns in
    columns-done g.met.S.Scalar.laws (vector_table c.set.new.self) (vector_table c.args.y.now) p
    c.args.lid c.args.x.now.columns 1 (omega arith)
    (λ i k. ap (λ t. t i k) c.set.ensures.cell ∙ columns-first g.met.S.Scalar.laws (vector_table c.args.y.now) p c.args.lid c.cell.result c.row_sum-sum.result c.cell.ensures.cell c.row_sum-sum.ensures.sum i k)
    (λ k high. row-none g.met.S.Scalar.laws c.args.columns.now c.args.numbers.now x k (length c.args.x.now.map) (λ j. vector-none c.args.x.now j k high))

pub loop-col-preserved : goal.loop-col-preserved
loop-col-preserved g c =
    let R = g.S.Scalar.semiring in
    let x = vector_table c.args.x.now in
    record {
      same_map = ap (λ v. v.map) c.set-in-loop-col.ensures.values ∙ c.loop-col.invariant.same_map;
      same_columns = ap (λ v. v.columns) c.set-in-loop-col.ensures.values ∙ c.loop-col.invariant.same_columns;
      done = λ i k.
          ap (λ t. t i k) c.set-in-loop-col.ensures.cell
          ∙ columns-more g.met.S.Scalar.laws (vector_table c.loop-col.y) (vector_table c.args.y.now) (row_product R (length c.args.x.now.map) c.args.columns.now c.args.numbers.now x)
          c.args.lid c.loop-col.col c.cell-in-loop-col.result c.row_sum-sum-in-loop-col.result c.loop-col.invariant.done c.cell-in-loop-col.ensures.cell c.row_sum-sum-in-loop-col.ensures.sum i k;
    }

pub returns-clause-row : goal.returns-clause-row
returns-clause-row g c =
    let R = g.S.Scalar.semiring in
    let x = vector_table c.args.x.now in
    let past = c.loop-col-test.false in
    let many = c.columns-col-end.ensures.columns in
    columns-done g.met.S.Scalar.laws (vector_table c.loop-col.y) (vector_table c.args.y.now) (row_product R (length c.args.x.now.map) c.args.columns.now c.args.numbers.now x)
    c.args.lid c.args.x.now.columns c.loop-col.col (omega arith) c.loop-col.invariant.done
    (λ k high. row-none g.met.S.Scalar.laws c.args.columns.now c.args.numbers.now x k (length c.args.x.now.map) (λ j. vector-none c.args.x.now j k high))
