use Rattle.std.proofs.Common.{◌≡◌, ◌++◌, ◌∷◌, [], sym, ap, ◌∙◌, append_assoc}
use Rattle.tables.specs.Tables.{cell_if}
use Rattle.multivector.specs.Vectors.{vector_table}
use Rattle.rank_values.specs.Rows.{row_of}
use Rattle.rank_values.proofs.CellLists.{count-push}
use Rattle.rank_values.proofs.cells.add_row.Goals as goal

pub loop-col-preserved : goal.loop-col-preserved
loop-col-preserved g c =
    let before = c.args.cells.now.items in
    let row = row_of c.args.vector.now c.args.lid c.args.row c.loop-col.col in
    c.in_ok-push.ensures.items
    ∙ (λ t. c.loop-col.invariant t ++ cell_if c.args.row c.loop-col.col (sym c.cell.ensures.cell t))
    ∙ append_assoc before row (cell_if c.args.row c.loop-col.col (vector_table c.args.vector.now c.args.lid c.loop-col.col))
    ∙ ap (λ cs. before ++ cs) (sym (count-push (λ j. cell_if c.args.row j (vector_table c.args.vector.now c.args.lid j)) c.loop-col.col))
