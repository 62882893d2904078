use Rattle.rank_pieces.specs.Steps.{IsSame}
use Rattle.rank_pieces.proofs.Clauses.{if-ok, read-as}
use Rattle.rank_pieces.proofs.steps.same_at.Goals as goal

pub returns : goal.returns
returns g c = record {
  piece = if-ok c.same_piece.result c.same_piece.ensures.same (λ p is. read-as (λ a. IsSame a p) c.args.pieces.now c.args.from c.index-pieces-from.result c.index-pieces-from.is is);
}
