use Rattle.directory.proofs.Owners.{all_registered, elsewhere}
use Rattle.directory.proofs.laws.owner_law.Goals as goal

pub returns : goal.returns
returns c = record { home = all_registered; elsewhere = elsewhere }
