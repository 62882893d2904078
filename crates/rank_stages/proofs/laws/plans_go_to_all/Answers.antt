use Rattle.rank_stages.proofs.PhaseLetters.{plans_go_to_all, plans_come_from_all}
use Rattle.rank_stages.proofs.laws.plans_go_to_all.Goals as goal

pub returns : goal.returns
returns c = record { names = plans_go_to_all; each = plans_come_from_all }
