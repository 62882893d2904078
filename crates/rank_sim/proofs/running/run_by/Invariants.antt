use Rattle.rank_sim.proofs.running.run_by.Given as goal

abbrev pub ghost-play_ranks : goal.ghost-play_ranks
ghost-play_ranks g a = g.protocol
