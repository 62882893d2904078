use Rattle.rank_example.proofs.steps.on_want_again.Given as goal

abbrev pub ghost-on_want : goal.ghost-on_want
ghost-on_want g a = g.so_far
