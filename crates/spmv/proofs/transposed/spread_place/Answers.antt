use Rattle.std.proofs.Common.{ℕ, Some, sym, ap, ◌∙◌, arith}
use Rattle.tables.specs.Sums.{both_or_one}
use Rattle.model_defs.specs.Operations.{times_there}
use Rattle.multivector.specs.Vectors.{vector_table}
use Rattle.spmv.proofs.Rows.{columns-done, columns-first, columns-more, vector-none}
use Rattle.spmv.proofs.transposed.spread_place.Goals as goal

pub returns-then-columns-eq1-clause-entry : goal.returns-then-columns-eq1-clause-entry
returns-then-columns-eq1-clause-entry g c =
    let R = g.S.Scalar.semiring in
    let number = c.args.number in
    let first = c.cell.result in
    let p = λ (k : ℕ). times_there R (Some number) (vector_table c.args.x.now c.args.lid k) in
    let new = ap Some (c.add-sum.ensures ∙ ap (λ v. R.plus first v) c.mul.ensures) ∙ ap (λ o. both_or_one R.plus (Some first) (times_there R (Some number) o)) (sym c.cell-then-columns-eq1.ensures.cell) in
    let one = c.if-columns-eq1.true in
    let many = c.columns.ensures.columns in
    let alike = c.requires.columns in
    columns-done g.met.S.Scalar.laws (vector_table c.set.new.self) (vector_table c.args.y.now) p
    c.args.to c.args.x.now.columns 1 (omega arith)
    (λ i k. ap (λ t. t i k) c.set.ensures.cell ∙ columns-first g.met.S.Scalar.laws (vector_table c.args.y.now) p c.args.to first c.add-sum.result c.cell.ensures.cell new i k)
    (λ k high. ap (times_there R (Some number)) (vector-none c.args.x.now c.args.lid k high))

pub loop-col-preserved : goal.loop-col-preserved
loop-col-preserved g c =
    let R = g.S.Scalar.semiring in
    let number = c.args.number in
    let first = c.cell-in-loop-col.result in
    let new = ap Some (c.add-sum-in-loop-col.ensures ∙ ap (λ v. R.plus first v) c.mul-in-loop-col.ensures) ∙ ap (λ o. both_or_one R.plus (Some first) (times_there R (Some number) o)) (sym c.cell-in-loop-col-2.ensures.cell) in
    record {
      same_map = ap (λ v. v.map) c.set-in-loop-col.ensures.values ∙ c.loop-col.invariant.same_map;
      same_columns = ap (λ v. v.columns) c.set-in-loop-col.ensures.values ∙ c.loop-col.invariant.same_columns;
      done = λ i k.
          ap (λ t. t i k) c.set-in-loop-col.ensures.cell
          ∙ columns-more g.met.S.Scalar.laws (vector_table c.loop-col.y) (vector_table c.args.y.now) (λ k. times_there R (Some number) (vector_table c.args.x.now c.args.lid k))
          c.args.to c.loop-col.col first c.add-sum-in-loop-col.result c.loop-col.invariant.done c.cell-in-loop-col.ensures.cell new i k;
    }

pub returns-clause-entry : goal.returns-clause-entry
returns-clause-entry g c =
    let R = g.S.Scalar.semiring in
    let past = c.loop-col-test.false in
    let many = c.columns-col-end.ensures.columns in
    columns-done g.met.S.Scalar.laws (vector_table c.loop-col.y) (vector_table c.args.y.now) (λ k. times_there R (Some c.args.number) (vector_table c.args.x.now c.args.lid k))
    c.args.to c.args.x.now.columns c.loop-col.col (omega arith) c.loop-col.invariant.done
    (λ k high. ap (times_there R (Some c.args.number)) (vector-none c.args.x.now c.args.lid k high))
