use Rattle.rank_example.proofs.steps.posts_both.Given as goal

abbrev pub ghost-posts : goal.ghost-posts
ghost-posts g a = g.so_far
