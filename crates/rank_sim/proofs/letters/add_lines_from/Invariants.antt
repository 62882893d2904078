use Rattle.std.proofs.Common.{◌≡◌, ◌++◌, List}
use Rattle.mm_text.specs.Reading.{File}
use Rattle.peers.specs.Protocols.{Letter}
use Rattle.rank_sim.specs.LetterLines.{lines_from}
use Rattle.rank_sim.specs.Ranks.{AreFinished}
use Rattle.rank_sim.proofs.letters.add_lines_from.Given as goal

abbrev pub invariant-loop-to : goal.invariant-loop-to
invariant-loop-to g l =
    (files : List File) (letters : List Letter) → AreFinished g.S.Scalar.semiring g.S.Scalar.conversions l.fn.job files letters l.ranks
    → l.lines.items ≡ l.fn.lines.items ++ lines_from l.fn.job files l.phase l.«from» l.to
