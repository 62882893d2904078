use Rattle.std.proofs.Common.{[], take, get_or}
use Rattle.sparse_product.proofs.Gathered.{IsGathered}
use Rattle.sparse_product.proofs.gather.add_scaled.Given as goal

abbrev pub invariant-loop-at : goal.invariant-loop-at
invariant-loop-at g l = IsGathered g.S.Scalar.semiring l.factor (take l.at (get_or l.links l.k [])) l.fn.row l.row
