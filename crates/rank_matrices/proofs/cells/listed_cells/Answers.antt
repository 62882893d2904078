use Rattle.std.proofs.Common.{◌≡◌, ◌++◌, length, subst, sym, ap, ◌∙◌, arith}
use Rattle.tables.specs.Indices.{AreDistinct}
use Rattle.tables.specs.Tables.{table_of}
use Rattle.crs_matrix.specs.ByRow.{by_row}
use Rattle.rank_values.proofs.CellLists.{count-push}
use Rattle.rank_matrices.specs.Rows.{first_rows, local_row}
use Rattle.rank_matrices.proofs.Listed.{all-rows}
use Rattle.rank_matrices.proofs.cells.listed_cells.Goals as goal

pub loop-lid-preserved : goal.loop-lid-preserved
loop-lid-preserved g c =
    let a = by_row c.args.matrix.now in
    c.in_ok-add_row.ensures.cells
    ∙ (λ t. c.loop-lid.invariant t ++ local_row a c.loop-lid.lid)
    ∙ sym (count-push (local_row a) c.loop-lid.lid)

pub returns : goal.returns
returns g c =
    let a = by_row c.args.matrix.now in
    let same : c.deref-2.result.now ≡ a.rows = c.deref-2.ensures ∙ c.row_map.ensures.rows in
    let distinct : AreDistinct a.rows = subst AreDistinct same c.len-lid-end.ensures.distinct in
    let many = ap length same in
    let end : c.loop-lid.lid ≡ length a.rows = (let past = c.loop-lid-test.false in let low = c.loop-lid.auto.lid-end in let len = c.len-lid-end.ensures.len in omega arith) in
    record {
      cells = ap (table_of g.S.Scalar.semiring) (c.loop-lid.invariant ∙ ap (first_rows a) end)
          ∙ all-rows g.met.S.Scalar.laws a c.row_map.ensures.is_matrix distinct
          ∙ c.row_map.ensures.table;
    }
