use Rattle.std.proofs.Common.{◌≡◌, ◌++◌, take, drop}
use Rattle.multivector.specs.Vectors.{combined_values}
use Rattle.multivector.proofs.multi_vector.combine_values.Given as goal

abbrev pub invariant-loop-i : goal.invariant-loop-i
invariant-loop-i g l = record {
  so_far : l.values ≡ combined_values g.S.Scalar.semiring l.alpha (take l.i l.others) l.beta (take l.i l.fn.values) ++ drop l.i l.fn.values;
}
