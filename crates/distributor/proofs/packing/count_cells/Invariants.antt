use Rattle.std.proofs.Common.{◌≡◌, take}
use Rattle.distributor.specs.Packed.{sent_entries, cell_count}
use Rattle.distributor.proofs.packing.count_cells.Given as goal

abbrev pub invariant-loop-lid : goal.invariant-loop-lid
invariant-loop-lid g l = l.cells ≡ cell_count (sent_entries (g.A.DistSource.entries l.source) (take l.lid-index l.list))
