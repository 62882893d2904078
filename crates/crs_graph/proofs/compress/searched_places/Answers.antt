use Rattle.std.proofs.Common.{◌++◌, ◌∷◌, [], get_or, is_some, refl, sym, ap, ◌∙◌}
use Rattle.std.proofs.lemmas.List.{map_more}
use Rattle.map_core.specs.Classes.{place}
use Rattle.map_core.proofs.Parting.{place-is}
use Rattle.crs_graph.proofs.Ascending.{stands-at}
use Rattle.crs_graph.proofs.compress.searched_places.Goals as goal

pub unreachable-requires : goal.unreachable-requires
unreachable-requires c =
    let gid = get_or c.args.gids.now c.loop-gid.gid-index 0 in
    let on = c.requires.known gid (stands-at c.args.gids.now gid c.loop-gid.gid-index c.loop-gid-test.true refl) in
    let found = c.local_of.ensures.found in
    let none = ap is_some c.in-None.is in
    absurd (cc)

pub loop-gid-preserved : goal.loop-gid-preserved
loop-gid-preserved c =
    let cols = c.args.cols.now in
    let gids = c.args.gids.now in
    let at = c.loop-gid.gid-index in
    let gid = get_or gids at 0 in
    c.in_ok-push-in-Some.ensures.items
    ∙ (λ t. c.loop-gid.invariant t ++ place-is cols gid c.in-Some.lid c.in-Some.ensures.place t ∷ [])
    ∙ sym (map_more (place cols) gids at 0 c.loop-gid-test.true)
