use Rattle.std.proofs.Common.{◌≡◌, ℕ, [], take, length, get_or, map}
use Rattle.sparse_product.specs.Rows.{linked_cells, AreLinks}
use Rattle.sparse_product.proofs.linked_rows.link_rows.Given as goal

abbrev pub invariant-loop-k : goal.invariant-loop-k
invariant-loop-k g l = record {
  cells : map (linked_cells l.columns) l.rows ≡ take l.k l.b.cells;
  within : (m : ℕ) → AreLinks (length l.columns) (get_or l.rows m []);
}
