use Rattle.std.proofs.Common.{◌≡◌, ◌++◌, ◌∷◌, [], get_or, map, take, sym, ap, ◌∙◌}
use Rattle.std.specs.Option.{unwrap_or}
use Rattle.std.proofs.lemmas.List.{map-append, take_more}
use Rattle.rank_plans.specs.Answers.{known_at, owner_by, owner_if_known}
use Rattle.rank_plans.proofs.LookedUp.{owner-or-first}
use Rattle.rank_plans.proofs.looked_up.owners_by_index.Goals as goal

pub loop-gid-preserved : goal.loop-gid-preserved
loop-gid-preserved c =
    let me = c.args.me in
    let own = c.args.own.now in
    let asked = c.args.asked.now in
    let known = c.args.known.now in
    let k = c.loop-gid.gid-index in
    let gid = get_or asked k 0 in
    let f = owner_by me own (known_at c.args.gids.now known) in
    let one : c.unwrap_or.result ≡ f gid =
    c.unwrap_or.ensures
    ∙ ap (λ o. unwrap_or o 0) (c.owner_of.ensures.owner ∙ (λ i. owner_if_known me own (known_at (c.in_ok-set.ensures.keys i) known) gid))
    ∙ owner-or-first me own (known_at c.args.gids.now known) gid in
    c.in_ok-push.ensures.items
    ∙ (λ i. c.loop-gid.invariant i ++ one i ∷ [])
    ∙ sym (ap (map f) (take_more asked k 0 c.loop-gid-test.true) ∙ map-append f (take k asked) (gid ∷ []))
