use Rattle.rank_pieces.specs.Steps.{IsScaled}
use Rattle.rank_pieces.proofs.Clauses.{if-ok, read-as}
use Rattle.rank_pieces.proofs.steps.scaled_at.Goals as goal

pub returns : goal.returns
returns g c = record {
  piece = if-ok c.scaled_piece.result c.scaled_piece.ensures.scaled (λ p is. read-as (λ a. IsScaled g.S.Scalar.semiring c.args.alpha a p) c.args.pieces.now c.args.value c.index-pieces-value.result c.index-pieces-value.is is);
}
