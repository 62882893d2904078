use Rattle.std.proofs.Common.{None, [], ◌∷◌, ◌++◌, map, get_or, take, sym, ap, ◌∙◌}
use Rattle.std.proofs.lemmas.List.{map-append, take_more}
use Rattle.rank_plans.proofs.task.unknown_owners.Goals as goal

pub loop-preserved : goal.loop-preserved
loop-preserved c =
    c.in_ok-push.ensures.items
    ∙ ap (λ os. os ++ None ∷ []) c.loop.invariant
    ∙ sym (map-append (λ _. None) (take c.loop.index c.args.gids.now) (get_or c.args.gids.now c.loop.index 0 ∷ []))
    ∙ ap (map (λ _. None)) (sym (take_more c.args.gids.now c.loop.index 0 c.loop-test.true))
