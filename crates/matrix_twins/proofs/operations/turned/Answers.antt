use Rattle.std.proofs.Common.{[], ◌∷◌, ◌++◌, ap, ◌∙◌}
use Rattle.tables.specs.Tables.{table_of}
use Rattle.matrix_twins.proofs.Lists.{table-turned}
use Rattle.matrix_twins.proofs.operations.turned.Goals as goal

pub loop-at-preserved : goal.loop-at-preserved
loop-at-preserved g c =
    ap (table_of g.S.Scalar.semiring) (c.in_ok-push.ensures.items ∙ ap (λ d. c.loop-at.turned.items ++ d ∷ []) c.turned_cell.ensures)
    ∙ table-turned g.met.S.Scalar.laws c.args.cells.now c.loop-at.turned.items c.loop-at.at c.index-cells-at.result c.loop-at-test.true c.index-cells-at.is c.loop-at.invariant
