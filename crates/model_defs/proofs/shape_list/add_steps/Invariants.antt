use Rattle.std.proofs.Common.{◌≡◌, map, filter, take}
use Rattle.model_defs.specs.Makers.{Made, gives_value}
use Rattle.model_defs.specs.ShapeLists.{shapes_from}
use Rattle.model_defs.proofs.shape_list.add_steps.Given as goal

abbrev pub invariant-loop-step : goal.invariant-loop-step
invariant-loop-step l = l.shapes.items ≡ shapes_from l.initial.shapes.items (map Made (filter gives_value (take l.step-index l.steps)))
