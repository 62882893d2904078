use Rattle.std.proofs.Common.{length}
use Rattle.gather_example.specs.Gathers.{gather}
use Rattle.gather_example.specs.Plays.{words_of}
use Rattle.gather_example.proofs.play.play_tellers.Given as goal

abbrev pub ghost-play_by : goal.ghost-play_by
ghost-play_by g x = gather (words_of x.words.now) (length x.words.now) x.rounds x.phases
