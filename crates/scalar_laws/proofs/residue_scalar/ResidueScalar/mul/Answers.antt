use Rattle.std.proofs.Common.{◌*◌, ◌%◌, ◌∙◌}
use Rattle.scalar_laws.specs.ResidueLaws.{same_residue}
use Rattle.scalar_laws.specs.Remainders.{remainder_again}
use Rattle.scalar_laws.proofs.residue_scalar.ResidueScalar.mul.Goals as goal

pub returns : goal.returns
returns g c =
    let m = g.M.Modulus.VALUE in
    let e = c.new.ensures in
    let f = c.VALUE.ensures in
    same_residue _ _ (c.new.ensures ∙ (λ i. (c.value.ensures.number i * c.value-2.ensures.number i) % c.VALUE.ensures i % m) ∙ remainder_again _ m)
