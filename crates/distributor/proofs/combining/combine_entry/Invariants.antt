use Rattle.std.proofs.Common.{◌≡◌, take}
use Rattle.distributor.specs.Entries.{entry_at, with_cells, cells_for}
use Rattle.distributor.proofs.combining.combine_entry.Given as goal

abbrev pub invariant-loop-at : goal.invariant-loop-at
invariant-loop-at g l = record {
  so_far : g.B.DistTarget.table l.target ≡ with_cells g.S.Scalar.semiring l.mode g.B.DistTarget.FIXED (g.B.DistTarget.table l.fn.target) (take l.at (cells_for l.to (entry_at (g.A.DistSource.entries l.source) l.from)));
  takes : g.B.DistTarget.takes l.target ≡ g.B.DistTarget.takes l.fn.target;
  shape : g.B.DistTarget.same_shape l.fn.target l.target;
}
