use Rattle.std.proofs.Common.{◌++◌, ◌∷◌, [], take, get_or, Err, refl, sym, ap, ◌∙◌, append_assoc}
use Rattle.std.proofs.lemmas.List.{map_more}
use Rattle.map_core.specs.Classes.{place, places}
use Rattle.crs_graph.proofs.Ascending.{searched_is, stands-at}
use Rattle.crs_graph.proofs.Searches.{found_place}
use Rattle.crs_graph.proofs.compress.push_places.Goals as goal

pub unreachable-requires : goal.unreachable-requires
unreachable-requires c =
    let row = c.args.row.now in
    let local = get_or c.args.locals.now c.loop-local.local-index 0 in
    let on = c.requires.known local (stands-at c.args.locals.now local c.loop-local.local-index c.loop-local-test.true refl) in
    let off = searched_is row local (Err c.in-Err.field-0) c.requires.ascend c.in-Err.ensures.position in
    absurd (cc)

pub loop-local-preserved : goal.loop-local-preserved
loop-local-preserved c =
    let row = c.args.row.now in
    let locals = c.args.locals.now in
    let at = c.loop-local.local-index in
    let local = get_or locals at 0 in
    let is = found_place row local c.in-Ok.place c.requires.ascend c.in-Ok.ensures.position in
    c.in_ok-push-in-Ok.ensures.items
    ∙ (λ t. c.loop-local.invariant t ++ is t ∷ [])
    ∙ append_assoc c.args.order.now.items (places row (take at locals)) (place row local ∷ [])
    ∙ ap (λ xs. c.args.order.now.items ++ xs) (sym (map_more (place row) locals at 0 c.loop-local-test.true))
