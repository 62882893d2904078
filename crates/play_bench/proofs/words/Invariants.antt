use Rattle.std.proofs.Common.{◌≡◌, vec_len}
use Rattle.play_bench.proofs.words.Given as goal

abbrev pub invariant-loop-rank : goal.invariant-loop-rank
invariant-loop-rank l = vec_len l.words ≡ l.rank
