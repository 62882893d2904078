use Rattle.std.proofs.Common.{◌++◌, ◌∷◌, [], sym, ap, ◌∙◌, drop, take, get_or, ◌+◌}
use Rattle.std.proofs.lemmas.List.{drop_more, take_more, map-append}
use Rattle.map_core.specs.Classes.{first_lacked, place, places}
use Rattle.map_core.proofs.Accepted.{first_lacked-held}
use Rattle.map_core.proofs.Parting.{place-is}
use Rattle.map_core.proofs.plan_builder.places_in.Goals as goal

pub loop-gid-preserved : goal.loop-gid-preserved
loop-gid-preserved c =
    let held = c.args.held.now in
    let gids = c.args.gids.now in
    let at = c.loop-gid.gid-index in
    let gid = get_or gids at 0 in
    let within = c.loop-gid-test.true in
    record {
      places = c.in_ok-push-in-Some.ensures.items
          ∙ (λ t. c.loop-gid.invariant.places t ++ place-is held gid c.in-Some.lid c.in-Some.ensures.place t ∷ [])
          ∙ sym (map-append (place held) (take at gids) (gid ∷ []))
          ∙ ap (places held) (sym (take_more gids at 0 within));
      held = c.loop-gid.invariant.held
          ∙ ap (first_lacked held) (drop_more gids at 0 within)
          ∙ first_lacked-held held (drop (at + 1) gids) gid (sym c.in-Some.ensures.found);
    }
