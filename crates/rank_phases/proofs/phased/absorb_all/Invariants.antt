use Rattle.std.proofs.Common.{take, drop}
use Rattle.rank_phases.specs.Stages.{Stage, CanAbsorbAll, absorbing}
use Rattle.rank_phases.specs.Queues.{letters_of}
use Rattle.rank_phases.proofs.phased.absorb_all.Given as goal

abbrev pub invariant-loop-letter : goal.invariant-loop-letter
invariant-loop-letter g l = (s : Stage) → g.W.Worker.stands l.fn.worker s → CanAbsorbAll s (letters_of l.letters)
    → g.W.Worker.stands l.worker (absorbing s (letters_of (take l.letter-index l.letters)))
    × CanAbsorbAll (absorbing s (letters_of (take l.letter-index l.letters))) (letters_of (drop l.letter-index l.letters))
