use Rattle.std.proofs.Common.{◌++◌, ◌∷◌, [], sym, ap, ◌∙◌}
use Rattle.std.proofs.lemmas.List.{append_assoc}
use Rattle.std.specs.Vec.Iter.{into_iter_items}
use Rattle.rank_sim.proofs.shown.add_sheets.Goals as goal

pub loop-sheet-preserved : goal.loop-sheet-preserved
loop-sheet-preserved c =
    let rest = into_iter_items c.next.new.self in
    ap (λ xs. xs ++ rest) c.in_ok-push.ensures.items
    ∙ append_assoc c.loop-sheet.sheets.items (c.in-Some.sheet ∷ []) rest
    ∙ ap (λ xs. c.loop-sheet.sheets.items ++ xs) (sym c.in-Some.ensures.steps.0)
    ∙ c.loop-sheet.invariant
