use Rattle.std.proofs.Common.{◌≡◌, map}
use Rattle.map_core.specs.BuilderFields.{accepted_places}
use Rattle.map_core.specs.Parts.{lists_of}
use Rattle.map_core.proofs.plan_builder.all_accepted.Given as goal

abbrev pub invariant-loop-places : goal.invariant-loop-places
invariant-loop-places l = lists_of l.lists.items ≡ map accepted_places l.yielded
