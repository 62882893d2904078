use Rattle.scalar_laws.specs.ResidueLaws.{same_residue}
use Rattle.scalar_laws.proofs.residue_scalar.ResidueScalar.one.Goals as goal

pub returns : goal.returns
returns g c = same_residue _ _ c.new.ensures
