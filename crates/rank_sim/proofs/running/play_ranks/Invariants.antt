use Rattle.rank_sim.proofs.running.play_ranks.Given as goal

abbrev pub ghost-play : goal.ghost-play
ghost-play g a = g.protocol
