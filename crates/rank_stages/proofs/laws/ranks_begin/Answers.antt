use Rattle.rank_stages.proofs.Stepping.{ranks_begin}
use Rattle.rank_stages.proofs.laws.ranks_begin.Goals as goal

pub returns : goal.returns
returns g c = ranks_begin g.S.Scalar.semiring g.S.Scalar.conversions
