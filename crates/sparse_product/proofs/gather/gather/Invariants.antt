use Rattle.std.proofs.Common.{take}
use Rattle.std.specs.List.{zip}
use Rattle.sparse_product.proofs.Gathered.{IsSummed}
use Rattle.sparse_product.proofs.gather.gather.Given as goal

abbrev pub invariant-loop-i : goal.invariant-loop-i
invariant-loop-i g l = IsSummed g.S.Scalar.semiring l.links (take l.i (zip l.ks l.factors)) l.fn.row l.row
