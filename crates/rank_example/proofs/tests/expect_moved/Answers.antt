use Rattle.rank_example.proofs.AfterSteps.{at-end}
use Rattle.rank_example.proofs.tests.expect_moved.Goals as goal

pub piece-requires : goal.piece-requires
piece-requires g c = record { done = (g.so_far.state, (c.requires.1.0.stands_so, at-end _ _ g.so_far c.requires.1.0 c.requires.1.1)) }
