use Rattle.std.proofs.Common.{◌≡◌, take}
use Rattle.tables.specs.Tables.{table_of}
use Rattle.model_defs.specs.Operations.{transpose}
use Rattle.matrix_twins.proofs.operations.turned.Given as goal

abbrev pub invariant-loop-at : goal.invariant-loop-at
invariant-loop-at g l = table_of g.S.Scalar.semiring l.turned.items ≡ transpose (table_of g.S.Scalar.semiring (take l.at l.cells))
