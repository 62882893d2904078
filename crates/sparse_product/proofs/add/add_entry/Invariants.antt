use Rattle.std.proofs.Common.{◌≡◌, take}
use Rattle.distributor.specs.Entries.{entry_at}
use Rattle.crs_matrix.specs.Rows.{local_table}
use Rattle.sparse_product.specs.Rows.{scaled_at, with_row}
use Rattle.sparse_product.proofs.add.add_entry.Given as goal

abbrev pub invariant-loop-at : goal.invariant-loop-at
invariant-loop-at g l = record {
  rows : l.target.rows ≡ l.fn.target.rows;
  row : local_table l.target ≡ with_row g.S.Scalar.semiring (local_table l.fn.target) l.lid (scaled_at g.S.Scalar.semiring l.factor (take l.at (entry_at (g.A.DistSource.entries l.source) l.from).cells));
}
