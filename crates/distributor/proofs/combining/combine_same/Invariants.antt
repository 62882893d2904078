use Rattle.std.proofs.Common.{◌≡◌, take}
use Rattle.distributor.specs.Entries.{with_cells}
use Rattle.distributor.specs.Transfers.{same_moves, moved_cells}
use Rattle.distributor.proofs.combining.combine_same.Given as goal

abbrev pub invariant-loop-lid : goal.invariant-loop-lid
invariant-loop-lid g l = record {
  so_far : g.B.DistTarget.table l.target ≡ with_cells g.S.Scalar.semiring l.mode g.B.DistTarget.FIXED (g.B.DistTarget.table l.fn.target) (moved_cells (g.A.DistSource.entries l.source) (take l.lid (same_moves l.same)));
  takes : g.B.DistTarget.takes l.target ≡ g.B.DistTarget.takes l.fn.target;
  shape : g.B.DistTarget.same_shape l.fn.target l.target;
}
