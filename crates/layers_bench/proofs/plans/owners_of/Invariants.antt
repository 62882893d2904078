use Rattle.std.proofs.Common.{◌≡◌, map, take}
use Rattle.map_core.specs.Layouts.{owner}
use Rattle.map_core.specs.Uniform.{uniform_layout}
use Rattle.layers_bench.proofs.plans.owners_of.Given as goal

abbrev pub invariant-loop-lid : goal.invariant-loop-lid
invariant-loop-lid l = l.owners.items ≡ map (owner (uniform_layout 4 l.size)) (take l.lid l.target)
