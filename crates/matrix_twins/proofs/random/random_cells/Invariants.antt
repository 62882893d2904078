use Rattle.std.proofs.Common.{◌≡◌, length}
use Rattle.tables.specs.Tables.{AreWithin}
use Rattle.matrix_twins.proofs.random.random_cells.Given as goal

abbrev pub invariant-loop : goal.invariant-loop
invariant-loop l = record {
  count : length l.cells.items ≡ l.counter;
  within : AreWithin l.rows l.cols l.cells.items;
}
