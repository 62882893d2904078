use Rattle.std.proofs.Common.{◌<◌, ◌+◌, length, sym, subst}
use Rattle.crs_graph.proofs.Compressed.{offset_count}
use Rattle.crs_graph.proofs.graph.CrsGraph.row_by_index.Goals as goal

pub row_of-requires-clause-known : goal.row_of-requires-clause-known
row_of-requires-clause-known c =
    subst (λ os. c.args.lid + 1 < length os) (sym c.as_slice.ensures.value)
    (offset_count _ _ _ _ _ c.args.self.now c.args.lid c.self.invariant c.self.view_is c.requires.known)
