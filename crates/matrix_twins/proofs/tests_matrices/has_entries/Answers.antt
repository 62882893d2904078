use Rattle.std.proofs.Common.{length, ap, ◌∙◌, arith}
use Rattle.crs_matrix.specs.ByRow.{by_row}
use Rattle.sparse_product.proofs.Links.{entries-known}
use Rattle.matrix_twins.proofs.tests_matrices.has_entries.Goals as goal

pub is_entry-requires : goal.is_entry-requires
is_entry-requires c =
    let low = c.loop-lid-test.true in
    let rows = ap length (c.deref.ensures ∙ c.row_map.ensures.rows) in
    let many = c.len-lid-end.ensures.len in
    record { known = entries-known (by_row c.args.a.now) c.loop-lid.lid c.row_map.ensures.is_matrix (omega arith) }
