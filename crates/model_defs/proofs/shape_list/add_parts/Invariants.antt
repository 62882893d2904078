use Rattle.std.proofs.Common.{◌≡◌, map, take}
use Rattle.model_defs.specs.Makers.{GivenParts}
use Rattle.model_defs.specs.ShapeLists.{shapes_from}
use Rattle.model_defs.proofs.shape_list.add_parts.Given as goal

abbrev pub invariant-loop-spec : goal.invariant-loop-spec
invariant-loop-spec l = l.shapes.items ≡ shapes_from l.initial.shapes.items (map GivenParts (take l.spec-index l.specs))
