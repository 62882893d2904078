use Rattle.rank_example.proofs.steps.posts_nothing.Given as goal

abbrev pub ghost-posts : goal.ghost-posts
ghost-posts g a = g.so_far
