use Rattle.model_defs.proofs.Structures.{places_are_structure}
use Rattle.model_defs.proofs.laws.places_are_structure.Goals as goal

pub returns : goal.returns
returns g c = places_are_structure g.S.Scalar.semiring g.S.Scalar.conversions
