use Rattle.std.proofs.Common.{length, ap, arith}
use Rattle.crs_graph.proofs.Packed.{length-slices}
use Rattle.crs_matrix.proofs.packed_places.PackedPlaces.row_at.Goals as goal

pub row_of-requires-clause-known : goal.row_of-requires-clause-known
row_of-requires-clause-known c =
    let many = length-slices c.self.inside.offsets.items c.self.inside.places.items c.self.invariant in
    omega (arith, c.requires.known, ap length c.self.view_is, ap length c.deref.ensures.value)
