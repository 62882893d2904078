use Rattle.std.proofs.Common.{◌≡◌, List, take}
use Rattle.std.specs.List.{flat_map}
use Rattle.mm_text.specs.Reading.{File}
use Rattle.peers.specs.Protocols.{Letter}
use Rattle.rank_sim.specs.LetterLines.{lines_of_phase}
use Rattle.rank_sim.specs.Ranks.{AreFinished}
use Rattle.rank_sim.proofs.letters.letter_lines.Given as goal

abbrev pub invariant-loop-line : goal.invariant-loop-line
invariant-loop-line g l =
    (files : List File) (letters : List Letter) → AreFinished g.S.Scalar.semiring g.S.Scalar.conversions l.fn.job files letters l.ranks
    → l.lines.items ≡ flat_map (λ line. lines_of_phase l.fn.job files line.phase l.fn.job.ranks) (take l.line-index l.phases)
