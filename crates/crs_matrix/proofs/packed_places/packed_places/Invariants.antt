use Rattle.std.proofs.Common.{◌≡◌, take}
use Rattle.crs_matrix.specs.Stored.{places_of}
use Rattle.crs_matrix.proofs.packed_places.packed_places.Given as goal

abbrev pub invariant-loop-row : goal.invariant-loop-row
invariant-loop-row l = l.packed ≡ places_of (take l.row-index l.row-items)
