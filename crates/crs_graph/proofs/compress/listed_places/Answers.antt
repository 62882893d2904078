use Rattle.std.proofs.Common.{◌<◌, ◌≤◌, ◌+◌, ◌-◌, ◌++◌, ◌∷◌, [], length, get_or, refl, sym, ◌∙◌, arith}
use Rattle.std.proofs.lemmas.List.{map_more}
use Rattle.std.proofs.lemmas.Option.{get_or_from_slice_get, slice_get_read}
use Rattle.map_core.specs.Classes.{place}
use Rattle.crs_graph.proofs.Ascending.{stands-at}
use Rattle.crs_graph.proofs.Marks.{place_listed}
use Rattle.crs_graph.proofs.compress.listed_places.Goals as goal

pub overflow_sub-gid : goal.overflow_sub-gid
overflow_sub-gid c =
    let gid = get_or c.args.gids.now c.loop-gid.gid-index 0 in
    c.requires.span.above gid (stands-at c.args.gids.now gid c.loop-gid.gid-index c.loop-gid-test.true refl)

pub index-requires : goal.index-requires
index-requires c =
    let gid = get_or c.args.gids.now c.loop-gid.gid-index 0 in
    let there = stands-at c.args.gids.now gid c.loop-gid.gid-index c.loop-gid-test.true refl in
    let above : c.args.first ≤ gid = c.requires.span.above gid there in
    let below : gid < c.args.first + c.args.count = c.requires.span.below gid there in
    omega (arith, c.in_ok-list.ensures.each, c.in_ok-list.list.ok.0)

pub loop-gid-preserved : goal.loop-gid-preserved
loop-gid-preserved c =
    let first = c.args.first in
    let cols = c.args.cols.now in
    let gids = c.args.gids.now in
    let at = c.loop-gid.gid-index in
    let list = c.in_ok-list.list.items in
    let there = stands-at gids (get_or gids at 0) at c.loop-gid-test.true refl in
    let above : first ≤ get_or gids at 0 = c.requires.span.above (get_or gids at 0) there in
    let below : get_or gids at 0 < first + c.args.count = c.requires.span.below (get_or gids at 0) there in
    let each = c.in_ok-list.ensures.each in
    let low : get_or gids at 0 - first < length list = omega arith in
    let read = get_or_from_slice_get list (get_or gids at 0 - first) c.index.result.now 0 (slice_get_read list (length list) (get_or gids at 0 - first) c.index.result.now refl low c.index.ensures) in
    let is = sym read ∙ place_listed first c.args.count cols list c.in_ok-list.ensures.places (get_or gids at 0) (get_or gids at 0 - first) (omega arith) (omega arith) (c.requires.known (get_or gids at 0) there) in
    c.in_ok-push.ensures.items
    ∙ (λ t. c.loop-gid.invariant t ++ is t ∷ [])
    ∙ sym (map_more (place cols) gids at 0 c.loop-gid-test.true)
