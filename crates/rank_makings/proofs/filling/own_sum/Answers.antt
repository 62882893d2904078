use Rattle.rank_makings.proofs.CopyAnswers.{if-ok}
use Rattle.rank_makings.proofs.SumsHere.{can-fill-here, here-there}
use Rattle.rank_makings.proofs.filling.own_sum.Goals as goal

pub summands_of-said-requires : goal.summands_of-said-requires
summands_of-said-requires g c = record { sum = c.requires.kind.sum }

pub matrix_at-requires : goal.matrix_at-requires
matrix_at-requires g c = record { matrix = here-there g.met.S.Scalar.laws c.requires.at.1.1.1.1.1 c.requires.kind (c.summands_of-said.ensures.said c.requires.kind.sum) }

pub filled_sum-requires-clause-kind : goal.filled_sum-requires-clause-kind
filled_sum-requires-clause-kind g c = c.requires.kind.sum

pub filled_sum-requires-clause-can : goal.filled_sum-requires-clause-can
filled_sum-requires-clause-can g c = (
  c.requires.at.0,
  (
    c.requires.at.1.0,
    (
      c.requires.at.1.1.0,
      (
        c.requires.at.1.1.1.0,
        (
          c.requires.at.1.1.1.1.0,
          can-fill-here g.met.S.Scalar.laws c.requires.at.1.1.1.1.1 c.requires.kind (c.summands_of-said.ensures.said c.requires.kind.sum) c.matrix_at.ensures.at _ c.in_ok-came.ensures.rows c.in_ok-came.ensures.table,
        ),
      ),
    ),
  ),
)

pub returns : goal.returns
returns g c = record {
  filled = if-ok c.filled_sum.result c.filled_sum.ensures.filled (λ fill is files me share shapes given at.
      is files me share shapes given
      (can-fill-here g.met.S.Scalar.laws at c.requires.kind (c.summands_of-said.ensures.said c.requires.kind.sum) c.matrix_at.ensures.at _ c.in_ok-came.ensures.rows c.in_ok-came.ensures.table));
}
