use Rattle.std.proofs.Common.{List, length}
use Rattle.mm_text.specs.Reading.{File}
use Rattle.peers.specs.Protocols.{Letter}
use Rattle.rank_pieces.specs.Inputs.{IsRankInput}
use Rattle.rank_pieces.specs.Pieces.{AreOwnPieces}
use Rattle.rank_pieces.proofs.making.add_pieces.Given as goal

abbrev pub invariant-loop-k : goal.invariant-loop-k
invariant-loop-k g l =
    (files : List File) (given : List Letter) → IsRankInput g.S.Scalar.conversions l.job files l.me l.share
    → AreOwnPieces g.S.Scalar.semiring g.S.Scalar.conversions l.job files l.me given (length l.fn.pieces.items) l.fn.pieces.items
    → AreOwnPieces g.S.Scalar.semiring g.S.Scalar.conversions l.job files l.me given l.k l.pieces.items
