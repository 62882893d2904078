use Rattle.std.proofs.Common.{◌∙◌, ap, nat_eq, get_or}
use Rattle.indexmap.specs.IndexSet.{insert_key}
use Rattle.rank_plans.proofs.LookedUp.{keys-more}
use Rattle.rank_plans.proofs.looked_up.index_set.Goals as goal

pub loop-gid-preserved : goal.loop-gid-preserved
loop-gid-preserved c =
    let gids = c.args.gids.now in
    let k = c.loop-gid.gid-index in
    c.in_ok-insert.ensures.keys
    ∙ ap (λ ks. insert_key nat_eq ks (get_or gids k 0)) c.loop-gid.invariant
    ∙ keys-more gids k 0 c.requires.distinct c.loop-gid-test.true
