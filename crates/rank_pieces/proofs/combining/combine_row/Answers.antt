use Rattle.std.proofs.Common.{true, ap, sym, ◌∙◌, arith}
use Rattle.combine_modes.specs.Modes.{after_one}
use Rattle.multivector.specs.Vectors.{vector_table}
use Rattle.rank_pieces.proofs.Combined.{past-columns, row-done, row-more}
use Rattle.rank_pieces.proofs.combining.combine_row.Goals as goal

pub loop-col-preserved : goal.loop-col-preserved
loop-col-preserved g c =
    let R = g.S.Scalar.semiring in
    let before = c.loop-col.invariant in
    record {
      shape = (ap (λ v. v.map) c.set.ensures.values ∙ before.shape.0, ap (λ v. v.columns) c.set.ensures.values ∙ before.shape.1);
      so_far = row-more R c.args.mode (vector_table c.args.y.now) (vector_table c.args.x.now) c.args.lid c.loop-col.col (vector_table c.loop-col.y) (vector_table c.set.new.self)
          c.vector_cell-value.result before.so_far
          (c.vector_cell-value.ensures.cell ∙ sym (λ t. after_one R c.args.mode true (c.cell.ensures.cell t) (c.cell-in-loop-col.ensures.cell t)))
          c.set.ensures.cell;
    }

pub returns-clause-row : goal.returns-clause-row
returns-clause-row g c =
    row-done g.S.Scalar.semiring c.args.mode (vector_table c.args.y.now) (vector_table c.args.x.now) c.args.lid c.loop-col.col (vector_table c.loop-col.y) c.loop-col.invariant.so_far
    (λ j far. past-columns c.args.x.now c.args.lid j (let end = c.loop-col-test.false in let many = c.columns-col-end.ensures.columns in omega arith))

pub returns-clause-others : goal.returns-clause-others
returns-clause-others g c = c.loop-col.invariant.so_far.others
