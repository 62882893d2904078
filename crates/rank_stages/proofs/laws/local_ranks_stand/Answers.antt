use Rattle.rank_stages.proofs.LocalStages.{local_ranks_stand}
use Rattle.rank_stages.proofs.laws.local_ranks_stand.Goals as goal

pub returns : goal.returns
returns g c = local_ranks_stand g.S.Scalar.semiring g.S.Scalar.conversions
