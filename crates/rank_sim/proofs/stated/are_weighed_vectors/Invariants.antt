use Rattle.std.proofs.Common.{take}
use Rattle.std.specs.List.{flat_map}
use Rattle.model_defs.specs.Numbers.{origin_integers}
use Rattle.rank_sim.specs.Stated.{AreWeighed}
use Rattle.rank_sim.proofs.stated.are_weighed_vectors.Given as goal

abbrev pub invariant-loop-spec : goal.invariant-loop-spec
invariant-loop-spec l = AreWeighed (flat_map (λ spec. origin_integers spec.from) (take l.spec-index l.specs))
