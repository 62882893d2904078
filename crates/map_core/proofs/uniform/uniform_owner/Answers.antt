use Rattle.std.proofs.Common.{arith}
use Rattle.std.proofs.lemmas.Grind.{common_steps}
use Rattle.map_core.proofs.Contiguous.{later_below, owner-uniform}
use Rattle.map_core.proofs.uniform.uniform_owner.Goals as goal

pub returns-then-gid-longer_end-clause-owns : goal.returns-then-gid-longer_end-clause-owns
returns-then-gid-longer_end-clause-owns c = owner-uniform c.args.ranks c.args.size c.args.gid _ (grind (arith, common_steps)) (grind (arith, common_steps)) (grind (arith, common_steps))

pub returns-else-gid-longer_end-clause-below : goal.returns-else-gid-longer_end-clause-below
returns-else-gid-longer_end-clause-below c = later_below c.args.ranks c.args.size c.args.gid (omega arith) (omega arith) (omega arith)

pub returns-else-gid-longer_end-clause-owns : goal.returns-else-gid-longer_end-clause-owns
returns-else-gid-longer_end-clause-owns c = owner-uniform c.args.ranks c.args.size c.args.gid _ (later_below c.args.ranks c.args.size c.args.gid (omega arith) (omega arith) (omega arith)) (grind (arith, common_steps)) (grind (arith, common_steps))
