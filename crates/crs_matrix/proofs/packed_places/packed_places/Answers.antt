use Rattle.std.proofs.Common.{◌++◌, ◌∷◌, [], sym, ap, ◌∙◌}
use Rattle.std.proofs.lemmas.List.{map_more}
use Rattle.crs_matrix.proofs.packed_places.packed_places.Goals as goal

pub loop-row-preserved : goal.loop-row-preserved
loop-row-preserved c =
    let rows = c.deref-row-items.result.now in
    let at = c.loop-row.row-index in
    let row = c.row-item.result in
    c.in_ok-push_row.ensures.row
    ∙ (λ t. c.loop-row.invariant t ++ (c.as_slice.ensures ∙ ap (λ v. v.items) c.row-item.is) t ∷ [])
    ∙ sym (map_more (λ v. v.items) rows at row c.loop-row-test.true)
