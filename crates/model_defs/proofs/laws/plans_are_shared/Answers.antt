use Rattle.model_defs.proofs.SharedPlans.{plans_are_shared}
use Rattle.model_defs.proofs.laws.plans_are_shared.Goals as goal

pub returns : goal.returns
returns c = plans_are_shared
