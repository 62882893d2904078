use Rattle.tables.specs.Tables.{AreWithin}
use Rattle.matrices_bench.proofs.given.tridiagonal.Given as goal

abbrev pub invariant-loop-row : goal.invariant-loop-row
invariant-loop-row l = AreWithin l.rows l.rows l.cells.items
