use Rattle.std.proofs.Common.{◌≡◌, ℕ, ◌<◌, false, Some}
use Rattle.std.specs.Prelude.{slice_get}
use Rattle.rank_pieces.specs.declared.pieces.Piece.{Piece}
use Rattle.rank_pieces.specs.Pieces.{piece_table}
use Rattle.rank_values.specs.Vectors.{is_over_there}
use Rattle.rank_core.proofs.rank.Rank.any_over.Given as goal

abbrev pub invariant-loop-piece : goal.invariant-loop-piece
invariant-loop-piece g l =
    (k : ℕ) (piece : Piece _) → k < l.piece-index → slice_get l.piece-items k ≡ Some piece
    → (i j : ℕ) → is_over_there g.S.Scalar.conversions (piece_table piece i j) ≡ false
