use Rattle.rank_transfers.proofs.Local.{copies-are-gathered}
use Rattle.rank_transfers.proofs.laws.copies_are_gathered.Goals as goal

pub returns : goal.returns
returns g c = copies-are-gathered g.S.Scalar.semiring g.S.Scalar.conversions
