use Rattle.std.proofs.Common.{◌≡◌}
use Rattle.matrix_moves.proofs.tests.matrix.Given as goal

abbrev pub invariant-loop-row : goal.invariant-loop-row
invariant-loop-row l = l.fill.rows ≡ l.list
