use Rattle.rank_values.proofs.Globals.{scaled-clause}
use Rattle.rank_values.proofs.sums.scaled_vector.Goals as goal

pub returns-clause-cells : goal.returns-clause-cells
returns-clause-cells g c =
    scaled-clause g.met.S.Scalar.laws c.args.alpha c.zero.result c.args.x.now c.sum_of_vectors.result c.zero.ensures c.sum_of_vectors.ensures.cells
