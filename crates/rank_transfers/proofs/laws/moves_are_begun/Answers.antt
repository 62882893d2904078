use Rattle.rank_transfers.proofs.Moved.{moves-are-begun}
use Rattle.rank_transfers.proofs.laws.moves_are_begun.Goals as goal

pub returns : goal.returns
returns g c = moves-are-begun g.S.Scalar.semiring g.S.Scalar.conversions
