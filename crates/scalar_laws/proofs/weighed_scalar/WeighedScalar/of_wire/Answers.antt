use Rattle.scalar_laws.specs.WeighedLaws.{stored_from}
use Rattle.scalar_laws.proofs.weighed_scalar.WeighedScalar.of_wire.Goals as goal

pub returns : goal.returns
returns c = stored_from c.of_bytes.result _ c.of_bytes.ensures
