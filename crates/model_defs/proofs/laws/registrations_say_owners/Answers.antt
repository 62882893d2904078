use Rattle.model_defs.proofs.PhaseFacts.{registrations-say-owners}
use Rattle.model_defs.proofs.laws.registrations_say_owners.Goals as goal

pub returns : goal.returns
returns c = registrations-say-owners
