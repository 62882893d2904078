use Rattle.std.proofs.Common.{◌≡◌, ◌≤◌, true, nat_lt, length, take}
use Rattle.std.specs.List.{list_all}
use Rattle.distributor.specs.Packed.{cell_count, sent_entries}
use Rattle.matrix_moves.proofs.room.is_short.Given as goal

abbrev pub invariant-loop-lid : goal.invariant-loop-lid
invariant-loop-lid g l =
    (l.cells ≤ 72057594037927936)
    × (l.cells ≡ cell_count (sent_entries (g.A.DistSource.entries l.source) (take l.lid-index l.list)))
    × (list_all (λ e. nat_lt (length e.cells) 4294967296) (sent_entries (g.A.DistSource.entries l.source) (take l.lid-index l.list)) ≡ true)
