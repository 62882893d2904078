use Rattle.std.proofs.Common.{Some, sym, ap, ◌∙◌}
use Rattle.tables.specs.Sums.{both_or_one}
use Rattle.tables.specs.Tables.{with_place}
use Rattle.matrix_twins.proofs.Lists.{table-empty, table-insert}
use Rattle.matrix_twins.proofs.fill.filled.Goals as goal

pub loop-at-init : goal.loop-at-init
loop-at-init g c = record {
  rows = ap (λ f. f.rows) c.in_ok-fill.ensures.empty;
  table = table-empty c.args.rows.value c.in_ok-fill.fill g.S.Scalar.semiring c.in_ok-fill.ensures.empty;
}

pub loop-at-preserved : goal.loop-at-preserved
loop-at-preserved g c =
    let cell = c.index-cells-at.result in
    record {
      rows = c.insert_cell.ensures.rows ∙ c.loop-at.invariant.rows;
      table = c.in_ok-insert_cell.ensures.place
          ∙ ap (λ t. with_place t cell.row cell.col (both_or_one g.S.Scalar.semiring.plus (t cell.row cell.col) (Some cell.value))) c.loop-at.invariant.table
          ∙ sym (table-insert g.met.S.Scalar.laws c.args.cells.now c.loop-at.at cell c.loop-at-test.true c.index-cells-at.is);
    }
