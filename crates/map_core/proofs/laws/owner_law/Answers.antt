use Rattle.map_core.proofs.Owners.{owner-below, owner-has, owner-none, owner-only, owner-total}
use Rattle.map_core.proofs.laws.owner_law.Goals as goal

pub returns : goal.returns
returns c = record { has = owner-has; below = owner-below; only = owner-only; none = owner-none; total = owner-total }
