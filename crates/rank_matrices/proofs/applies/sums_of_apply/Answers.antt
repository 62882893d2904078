use Rattle.std.proofs.Common.{true, false}
use Rattle.rank_matrices.proofs.SumsOn.{sums-turned}
use Rattle.rank_matrices.proofs.applies.sums_of_apply.Goals as goal

pub returns-then-transposed-clause-sums : goal.returns-then-transposed-clause-sums
returns-then-transposed-clause-sums g c =
    sums-turned g.S.Scalar.semiring c.args.a.now c.args.x.now c.args.transposed true c.sums_of_columns.result c.if-transposed.true c.requires.source c.sums_of_columns.ensures.sums

pub returns-clause-sums : goal.returns-clause-sums
returns-clause-sums g c =
    sums-turned g.S.Scalar.semiring c.args.a.now c.args.x.now c.args.transposed false c.sums_of_rows.result c.if-transposed.false c.requires.source c.sums_of_rows.ensures.sums
