use Rattle.std.proofs.Common.{◌≡◌, false, take}
use Rattle.rank_matrices.specs.Rows.{has_over}
use Rattle.rank_matrices.proofs.overs.has_over.Given as goal

abbrev pub invariant-loop-number : goal.invariant-loop-number
invariant-loop-number g l = has_over g.S.Scalar.conversions (take l.number-index l.numbers) ≡ false
