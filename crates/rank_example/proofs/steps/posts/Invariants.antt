use Rattle.rank_example.proofs.steps.posts.Given as goal

abbrev pub ghost-posts_of : goal.ghost-posts_of
ghost-posts_of g a = g.so_far.state
