use Rattle.std.proofs.Common.{◌≡◌, map, take}
use Rattle.map_core.specs.Layouts.{owner}
use Rattle.map_core.specs.Uniform.{uniform_layout}
use Rattle.rank_plans.proofs.answers.owners_by_rule.Given as goal

abbrev pub invariant-loop-gid : goal.invariant-loop-gid
invariant-loop-gid l = l.owners.items ≡ map (owner (uniform_layout l.ranks l.size)) (take l.gid-index l.gids)
