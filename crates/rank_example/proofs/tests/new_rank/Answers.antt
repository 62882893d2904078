use Rattle.scalar_laws.specs.Weighed.{weighed_conversions, weighed_semiring}
use Rattle.rank_core.specs.Ranks.{IsRank}
use Rattle.rank_example.proofs.AfterSteps.{at-start}
use Rattle.rank_example.proofs.tests.new_rank.Goals as goal

pub returns : goal.returns
returns c = record { so_far = at-start (IsRank weighed_semiring weighed_conversions) _ c.in_ok-rank.ensures.fresh }
