use Rattle.rank_stages.proofs.Prepared.{phases_are_prepared, transfers_have_plans}
use Rattle.rank_stages.proofs.laws.phases_are_prepared.Goals as goal

pub returns : goal.returns
returns c = record { phases = phases_are_prepared; transfers = transfers_have_plans }
