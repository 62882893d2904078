use Rattle.std.proofs.Common.{◌≡◌, ◌++◌, ◌∷◌, [], map, take, sym, ap, ◌∙◌}
use Rattle.std.proofs.lemmas.List.{map-append}
use Rattle.rank_plans.specs.Answers.{known_at, owner_if_known}
use Rattle.rank_plans.proofs.Fresh.{taken-more}
use Rattle.rank_plans.proofs.looked_up.target_owners_by_index.Goals as goal

pub loop-lid-preserved : goal.loop-lid-preserved
loop-lid-preserved c =
    let me = c.args.me in
    let source = c.args.source.now in
    let target = c.args.target.now in
    let known = c.args.known.now in
    let lid = c.loop-lid.lid in
    let gid = c.in-Some.gid in
    let f = owner_if_known me source (known_at c.args.gids.now known) in
    let one : c.owner_of.result ≡ f gid = c.owner_of.ensures.owner ∙ (λ i. owner_if_known me source (known_at (c.in_ok-set.ensures.keys i) known) gid) in
    c.in_ok-push-in-Some.ensures.items
    ∙ (λ i. c.loop-lid.invariant i ++ one i ∷ [])
    ∙ sym (ap (map f) (taken-more target lid gid c.in-Some.ensures.index) ∙ map-append f (take lid target) (gid ∷ []))
