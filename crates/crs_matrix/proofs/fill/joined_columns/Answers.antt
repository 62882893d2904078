use Rattle.std.proofs.Common.{◌++◌, ◌∷◌, [], take, get_or, map, sym, ap, ◌∙◌}
use Rattle.std.specs.List.{concat}
use Rattle.std.proofs.lemmas.List.{append-nil, map-append, map_more}
use Rattle.std.proofs.lemmas.List.Folds.{concat-append}
use Rattle.crs_matrix.specs.Stored.{columns_at, places_of}
use Rattle.crs_matrix.proofs.fill.joined_columns.Goals as goal

pub loop-row-preserved : goal.loop-row-preserved
loop-row-preserved c =
    let rows = c.args.rows.now in
    let at = c.loop-row.row-index in
    let row = c.row-item.result in
    c.in_ok-push_columns.ensures.pushed
    ∙ (λ t. c.loop-row.invariant t ++ columns_at ((c.as_slice.ensures ∙ ap (λ v. v.items) c.row-item.is) t))
    ∙ ap (λ xs. concat (map columns_at (places_of (take at rows))) ++ xs) (sym (append-nil (columns_at (get_or rows at row).items)))
    ∙ sym (concat-append (map columns_at (places_of (take at rows))) (columns_at (get_or rows at row).items ∷ []))
    ∙ ap concat (sym (ap (map columns_at) (map_more (λ v. v.items) rows at row c.loop-row-test.true) ∙ map-append columns_at (places_of (take at rows)) ((get_or rows at row).items ∷ [])))
