use Rattle.transpose.proofs.Transposed.{IsTurned}
use Rattle.transpose.proofs.turned.local_transpose.Given as goal

abbrev pub invariant-loop-lid : goal.invariant-loop-lid
invariant-loop-lid g l = IsTurned l.lid l.a l.turned
