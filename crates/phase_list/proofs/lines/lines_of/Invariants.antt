use Rattle.std.proofs.Common.{◌≡◌, ◌++◌, drop}
use Rattle.model_defs.specs.Traffic.{phase_lines_from}
use Rattle.phase_list.proofs.lines.lines_of.Given as goal

abbrev pub invariant-loop-n : goal.invariant-loop-n
invariant-loop-n l = phase_lines_from l.job 0 l.phases ≡ l.lines.items ++ phase_lines_from l.job l.n (drop l.n l.phases)
