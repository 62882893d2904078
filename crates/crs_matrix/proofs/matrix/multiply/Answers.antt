use Rattle.std.proofs.Common.{sym, ap, ◌∙◌}
use Rattle.crs_matrix.proofs.NumberRows.{changed-more}
use Rattle.crs_matrix.proofs.matrix.multiply.Goals as goal

pub loop-value-preserved : goal.loop-value-preserved
loop-value-preserved g c =
    changed-more (λ v. g.S.Scalar.semiring.times c.args.alpha v) c.loop-value.value-index c.args.values.now c.loop-value.values c.value-item.result c.mul.result
    c.loop-value-test.true c.loop-value.invariant c.value-item.is (c.mul.ensures ∙ ap (λ v. g.S.Scalar.semiring.times c.args.alpha v) (sym c.value-item.is))
