use Rattle.rank_example.proofs.steps.on_data_again.Given as goal

abbrev pub ghost-on_data : goal.ghost-on_data
ghost-on_data g a = g.so_far
