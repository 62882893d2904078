use Rattle.std.proofs.Common.{◌++◌, ◌∷◌, [], sym, ap, ◌∙◌}
use Rattle.rank_plans.proofs.Fresh.{taken-more}
use Rattle.rank_plans.proofs.indices.indices.Goals as goal

pub loop-lid-preserved : goal.loop-lid-preserved
loop-lid-preserved c =
    c.in_ok-push-in-Some.ensures.items ∙ ap (λ xs. xs ++ c.in-Some.gid ∷ []) c.loop-lid.invariant
    ∙ sym (taken-more c.args.map.now c.loop-lid.lid c.in-Some.gid c.in-Some.ensures.index)
