use Rattle.std.proofs.Common.{take}
use Rattle.std.specs.List.{flat_map}
use Rattle.model_defs.specs.Numbers.{step_integers}
use Rattle.rank_sim.specs.Stated.{AreWeighed}
use Rattle.rank_sim.proofs.stated.are_weighed_steps.Given as goal

abbrev pub invariant-loop-step : goal.invariant-loop-step
invariant-loop-step l = AreWeighed (flat_map step_integers (take l.step-index l.steps))
