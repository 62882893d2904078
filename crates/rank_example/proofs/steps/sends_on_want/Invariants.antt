use Rattle.rank_example.specs.Played.{with_want}
use Rattle.rank_example.proofs.steps.sends_on_want.Given as goal

abbrev pub ghost-on_want : goal.ghost-on_want
ghost-on_want g a = g.so_far

abbrev pub ghost-posts : goal.ghost-posts
ghost-posts g a = with_want g.so_far
