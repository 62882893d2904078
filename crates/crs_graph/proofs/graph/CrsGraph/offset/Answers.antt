use Rattle.std.proofs.Common.{◌<◌, length, get_or, sym, subst, ap, ◌∙◌, arith}
use Rattle.crs_graph.specs.Packed.{offsets_of}
use Rattle.crs_graph.proofs.Compressed.{columns_count, offset_bound, offset_count}
use Rattle.crs_graph.proofs.graph.CrsGraph.offset.Goals as goal

pub bounds-as_slice-lid : goal.bounds-as_slice-lid
bounds-as_slice-lid c =
    let low = offset_count _ _ _ _ _ c.args.self.now c.args.lid c.self.invariant c.self.view_is c.requires.known in
    subst (λ os. c.args.lid < length os) (sym c.as_slice.ensures.value) (omega arith)

pub returns-clause-within : goal.returns-clause-within
returns-clause-within c =
    let g = c.args.self.now in
    let at = c.as_slice.ensures.value ∙ c.self.invariant.packed.begin ∙ ap (λ g. offsets_of g.columns) c.self.view_is in
    let bound = offset_bound _ _ _ _ _ g c.args.lid c.self.invariant c.self.view_is c.requires.known in
    let count = columns_count _ _ _ _ _ g c.self.invariant c.self.view_is in
    let same = ap (λ os. get_or os c.args.lid 0) at in
    omega arith

pub returns-clause-small : goal.returns-clause-small
returns-clause-small c =
    let g = c.args.self.now in
    let at = c.as_slice.ensures.value ∙ c.self.invariant.packed.begin ∙ ap (λ g. offsets_of g.columns) c.self.view_is in
    let bound = offset_bound _ _ _ _ _ g c.args.lid c.self.invariant c.self.view_is c.requires.known in
    let same = ap (λ os. get_or os c.args.lid 0) at in
    let many = c.len.ensures in
    let most = c.len.type_inv in
    omega arith
