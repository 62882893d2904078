use Rattle.std.proofs.Common.{◌≡◌, true, false, sym, ap, ◌∙◌, arith}
use Rattle.multivector.specs.Vectors.{vector_table}
use Rattle.rank_values.specs.Vectors.{is_over_there}
use Rattle.rank_values.proofs.Overs.{any-here, none-more}
use Rattle.rank_values.proofs.cells.is_row_over.Goals as goal

pub returns-then-is_over : goal.returns-then-is_over
returns-then-is_over g c =
    record {
      over = sym (any-here (λ j. is_over_there g.S.Scalar.conversions (vector_table c.args.vector.now c.args.lid j)) 0 c.args.vector.now.columns c.loop-col.col (omega arith)
          (let end = c.columns-col-end.ensures.columns in let low = c.loop-col-test.true in omega arith)
          (ap (is_over_there g.S.Scalar.conversions) c.cell.ensures.cell ∙ sym c.is_over.ensures ∙ c.if-is_over.true));
    }

pub loop-col-preserved : goal.loop-col-preserved
loop-col-preserved g c =
    none-more (λ j. is_over_there g.S.Scalar.conversions (vector_table c.args.vector.now c.args.lid j)) c.loop-col.col c.loop-col.invariant
    (ap (is_over_there g.S.Scalar.conversions) c.cell.ensures.cell ∙ sym c.is_over.ensures ∙ c.if-is_over.false)
