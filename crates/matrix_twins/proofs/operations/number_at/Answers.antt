use Rattle.std.proofs.Common.{sym, ◌∙◌}
use Rattle.tables.specs.Sums.{both_or_one}
use Rattle.matrix_twins.proofs.Lists.{table-more}
use Rattle.matrix_twins.proofs.operations.number_at.Goals as goal

pub loop-at-preserved : goal.loop-at-preserved
loop-at-preserved g c =
    let plus = g.S.Scalar.semiring.plus in
    c.sum_there-number.ensures
    ∙ (λ t. both_or_one plus (c.loop-at.invariant t) (c.part_of.ensures t))
    ∙ sym (table-more g.met.S.Scalar.laws c.args.cells.now c.loop-at.at c.index-cells-at.result c.args.row c.args.col c.loop-at-test.true c.index-cells-at.is)
