use Rattle.std.proofs.Common.{◌≡◌, true, false, refl, sym, ◌∙◌}
use Rattle.crs_graph.proofs.Ascending.{missing}
use Rattle.sparse_product.proofs.linked_rows.place_of.Goals as goal

pub unreachable-requires : goal.unreachable-requires
unreachable-requires c =
    let gap = missing c.args.columns.now c.args.columns.now c.args.col c.in-Err.field-0 refl c.requires.ascend c.in-Err.ensures.position in
    let bad : true ≡ false = sym c.requires.there ∙ gap.absent in
    cc
