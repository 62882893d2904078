use Rattle.rank_example.specs.Played.{emptied}
use Rattle.rank_example.proofs.AfterSteps.{after-work}
use Rattle.rank_example.proofs.steps.posts.Goals as goal

pub returns : goal.returns
unfolding emptied
returns g c = record { so_far = after-work _ _ _ g.so_far c.requires.1.1 c.in_ok-posts.ensures.peer }
