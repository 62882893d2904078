use Rattle.std.proofs.Common.{◌++◌, ◌∷◌, [], ap, ◌∙◌, rules}
use Rattle.multivector.proofs.Cells.{zipped-more}
use Rattle.multivector.proofs.multi_vector.sums_of.Goals as goal

pub loop-i-preserved : goal.loop-i-preserved
loop-i-preserved g c =
    let R = g.S.Scalar.semiring in
    c.in_ok-push.ensures.items
    ∙ ap (λ zs. zs ++ c.add.result ∷ []) c.loop-i.invariant
    ∙ zipped-more (λ pair. R.plus (R.times c.args.alpha pair.0) (R.times c.args.beta pair.1)) c.loop-i.i c.args.xs.now c.args.ys.now
    c.index-xs-i.result c.index-ys-i.result c.add.result c.requires.alike c.loop-i-test.true c.index-xs-i.is c.index-ys-i.is (search rules)
