use Rattle.std.proofs.Common.{◌≡◌, [], take, length, get_or}
use Rattle.sparse_product.specs.Rows.{linked_cells, AreLinks}
use Rattle.sparse_product.proofs.linked_rows.link_row.Given as goal

abbrev pub invariant-loop-at : goal.invariant-loop-at
invariant-loop-at g l = record {
  cells : linked_cells l.columns l.row.items ≡ take l.at (get_or l.b.cells l.k []);
  within : AreLinks (length l.columns) l.row.items;
}
