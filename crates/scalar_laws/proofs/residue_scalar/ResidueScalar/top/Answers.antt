use Rattle.std.proofs.Common.{arith}
use Rattle.scalar_laws.specs.Remainders.{remainder_max}
use Rattle.scalar_laws.specs.ResidueLaws.{same_residue}
use Rattle.scalar_laws.proofs.residue_scalar.ResidueScalar.top.Goals as goal

pub returns-then-value : goal.returns-then-value
returns-then-value g c =
    same_residue _ _ (remainder_max c.args.self.value c.args.other.value c.args.other.value g.M.Modulus.VALUE c.args.self.below c.args.other.below (omega (arith, c.value.ensures.number, c.value-2.ensures.number, c.if-value.true)))

pub returns-else-value : goal.returns-else-value
returns-else-value g c =
    same_residue _ _ (remainder_max c.args.self.value c.args.other.value c.args.self.value g.M.Modulus.VALUE c.args.self.below c.args.other.below (omega (arith, c.value.ensures.number, c.value-2.ensures.number, c.if-value.false)))
