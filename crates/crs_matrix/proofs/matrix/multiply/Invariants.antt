use Rattle.std.proofs.Common.{◌≡◌, ◌++◌, map, take, drop}
use Rattle.crs_matrix.proofs.matrix.multiply.Given as goal

abbrev pub invariant-loop-value : goal.invariant-loop-value
invariant-loop-value g l = l.values ≡ map (λ v. g.S.Scalar.semiring.times l.alpha v) (take l.value-index l.initial.values) ++ drop l.value-index l.initial.values
