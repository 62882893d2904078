use Rattle.std.proofs.Common.{length, ap, ◌∙◌, arith}
use Rattle.sparse_product.proofs.Links.{entries-known}
use Rattle.matrices_bench.proofs.total_of_fill.Goals as goal

pub with_entry-total-requires : goal.with_entry-total-requires
with_entry-total-requires c =
    let low = c.loop-lid-test.true in
    let rows = ap length (c.deref.ensures ∙ c.row_map.ensures.rows) in
    let many = c.len-lid-end.ensures.len in
    record { known = entries-known c.args.fill.now c.loop-lid.lid c.row_map.ensures.is_matrix (omega arith) }
