use Rattle.rank_stages.proofs.Owners.{remotes_are_by_owners, uniform_maps_are_by_rule}
use Rattle.rank_stages.proofs.laws.remotes_are_by_owners.Goals as goal

pub returns : goal.returns
returns c = record { remotes = remotes_are_by_owners; uniform = uniform_maps_are_by_rule }
