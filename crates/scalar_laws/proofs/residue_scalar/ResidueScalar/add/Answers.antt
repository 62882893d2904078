use Rattle.std.proofs.Common.{◌+◌, ◌%◌, ◌∙◌}
use Rattle.scalar_laws.specs.ResidueLaws.{same_residue}
use Rattle.scalar_laws.proofs.residue_scalar.ResidueScalar.add.Goals as goal

pub returns : goal.returns
returns g c = same_residue _ _ (c.new.ensures ∙ (λ i. (c.value.ensures.number i + c.value-2.ensures.number i) % g.M.Modulus.VALUE))
