use Rattle.rank_values.proofs.Globals.{global-combined}
use Rattle.rank_values.proofs.sums.sum_of_vectors.Goals as goal

pub returns-clause-cells : goal.returns-clause-cells
returns-clause-cells g c =
    global-combined g.met.S.Scalar.laws c.args.alpha c.args.beta c.args.x.now c.args.y.now c.in_ok-sum.sum c.requires.map c.in_ok-sum.ensures.map c.in_ok-sum.ensures.cells
