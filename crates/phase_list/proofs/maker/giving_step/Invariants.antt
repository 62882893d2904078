use Rattle.std.proofs.Common.{◌≡◌, filter, drop}
use Rattle.std.specs.List.{slice_get}
use Rattle.model_defs.specs.Makers.{gives_value}
use Rattle.phase_list.proofs.maker.giving_step.Given as goal

abbrev pub invariant-loop-step : goal.invariant-loop-step
invariant-loop-step l = slice_get (filter gives_value l.steps) l.n ≡ slice_get (filter gives_value (drop l.step-index l.steps)) l.left
