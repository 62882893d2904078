use Rattle.std.proofs.Common.{◌≡◌, take}
use Rattle.multivector.specs.Vectors.{combined_values}
use Rattle.multivector.proofs.multi_vector.sums_of.Given as goal

abbrev pub invariant-loop-i : goal.invariant-loop-i
invariant-loop-i g l = l.values.items ≡ combined_values g.S.Scalar.semiring l.alpha (take l.i l.xs) l.beta (take l.i l.ys)
