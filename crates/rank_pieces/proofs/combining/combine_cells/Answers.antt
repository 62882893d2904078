use Rattle.std.proofs.Common.{◌≡◌, length, ap, ◌∙◌, arith}
use Rattle.multivector.specs.Vectors.{vector_table}
use Rattle.rank_pieces.proofs.Combined.{past-rows, rows-done, rows-more}
use Rattle.rank_pieces.proofs.combining.combine_cells.Goals as goal

pub loop-lid-preserved : goal.loop-lid-preserved
loop-lid-preserved g c =
    let before = c.loop-lid.invariant in
    record {
      shape = (c.combine_row.ensures.shape.0 ∙ before.shape.0, c.combine_row.ensures.shape.1 ∙ before.shape.1);
      so_far = rows-more g.S.Scalar.semiring c.args.mode (vector_table c.args.y.now) (vector_table c.args.x.now) c.loop-lid.lid (vector_table c.loop-lid.y) (vector_table c.combine_row.new.y)
          before.so_far c.combine_row.ensures.row c.combine_row.ensures.others;
    }

pub returns-clause-cells : goal.returns-clause-cells
returns-clause-cells g c =
    rows-done g.S.Scalar.semiring c.args.mode (vector_table c.args.y.now) (vector_table c.args.x.now) c.loop-lid.lid (vector_table c.loop-lid.y) c.loop-lid.invariant.so_far
    (λ i j far. past-rows c.args.x.now i j (let end = c.loop-lid-test.false in let many : c.len-lid-end.result ≡ length c.args.x.now.map = c.len-lid-end.ensures.len ∙ ap length (c.deref.ensures ∙ c.map.ensures.map) in omega arith))
