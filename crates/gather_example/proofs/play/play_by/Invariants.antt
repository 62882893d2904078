use Rattle.gather_example.proofs.play.play_by.Given as goal

abbrev pub ghost-play_ranks : goal.ghost-play_ranks
ghost-play_ranks g a = g.protocol
