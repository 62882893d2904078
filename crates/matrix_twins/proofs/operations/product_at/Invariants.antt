use Rattle.std.proofs.Common.{◌≡◌}
use Rattle.tables.specs.Sums.{if_there, total_below}
use Rattle.tables.specs.Tables.{table_of}
use Rattle.model_defs.specs.Operations.{product}
use Rattle.matrix_twins.proofs.operations.product_at.Given as goal

abbrev pub invariant-loop-k : goal.invariant-loop-k
invariant-loop-k g l = l.number ≡ product g.S.Scalar.semiring l.k (table_of g.S.Scalar.semiring l.a) (table_of g.S.Scalar.semiring l.b) l.row l.col
