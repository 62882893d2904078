use Rattle.std.proofs.Common.{◌%◌, ◌∙◌, ap}
use Rattle.std.specs.Int.{w64, from_le_bytes}
use Rattle.scalar_laws.specs.ResidueLaws.{same_residue}
use Rattle.scalar_laws.proofs.residue_scalar.ResidueScalar.of_wire.Goals as goal

pub returns : goal.returns
returns g c =
    same_residue _ _ (c.new.ensures ∙ ap (λ n. n % g.M.Modulus.VALUE) (c.from_le_bytes.ensures ∙ ap (from_le_bytes w64) c.copy_from_slice.ensures.after))
