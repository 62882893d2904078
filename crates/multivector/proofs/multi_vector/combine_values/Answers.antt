use Rattle.std.proofs.Common.{◌≡◌, length, arith, rules}
use Rattle.multivector.proofs.Cells.{done-more}
use Rattle.multivector.proofs.multi_vector.combine_values.Goals as goal

pub loop-i-preserved : goal.loop-i-preserved
loop-i-preserved g c =
    let R = g.S.Scalar.semiring in
    record {
      so_far = done-more (λ pair. R.plus (R.times c.args.alpha pair.0) (R.times c.args.beta pair.1)) c.loop-i.i c.args.others.now c.args.values.now c.loop-i.values
          c.index-others-i.result c.index-values-i.result c.add.result c.requires.alike (omega (arith, c.loop-i.auto.values))
          c.loop-i.invariant.so_far c.index-others-i.is c.index-values-i.is (search rules);
    }
