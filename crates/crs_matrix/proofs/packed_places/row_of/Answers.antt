use Rattle.std.proofs.Common.{◌∙◌}
use Rattle.crs_graph.proofs.Packed.{bounded}
use Rattle.crs_matrix.proofs.packed_places.row_of.Goals as goal

pub part-requires : goal.part-requires
part-requires c =
    let at = bounded c.args.offsets.now c.args.list.now c.args.row c.requires.packed c.requires.known in
    record { ordered = at.ordered; within = at.within }

pub returns : goal.returns
returns c =
    let at = bounded c.args.offsets.now c.args.list.now c.args.row c.requires.packed c.requires.known in
    record { row = c.part.ensures.part ∙ at.row }
