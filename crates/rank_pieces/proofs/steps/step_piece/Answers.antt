use Rattle.std.proofs.Common.{sym, subst}
use Rattle.rank_pieces.specs.Steps.{IsStepPiece}
use Rattle.rank_pieces.proofs.Clauses.{if-ok}
use Rattle.rank_pieces.proofs.steps.step_piece.Goals as goal

pub returns-in-Move : goal.returns-in-Move
returns-in-Move g c = record {
  piece = if-ok c.same_at.result c.same_at.ensures.piece
      (λ p is. subst (λ s. IsStepPiece g.S.Scalar.semiring g.S.Scalar.conversions c.args.pieces.now s p) (sym c.in-Move.is) is);
}

pub returns-in-Spread : goal.returns-in-Spread
returns-in-Spread g c = record {
  piece = if-ok c.same_at-in-Spread.result c.same_at-in-Spread.ensures.piece
      (λ p is. subst (λ s. IsStepPiece g.S.Scalar.semiring g.S.Scalar.conversions c.args.pieces.now s p) (sym c.in-Spread.is) is);
}
