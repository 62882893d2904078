use Rattle.std.proofs.Common.{◌≡◌, take}
use Rattle.tables.specs.Tables.{table_of}
use Rattle.matrix_twins.proofs.operations.number_at.Given as goal

abbrev pub invariant-loop-at : goal.invariant-loop-at
invariant-loop-at g l = l.number ≡ table_of g.S.Scalar.semiring (take l.at l.cells) l.row l.col
