use Rattle.std.proofs.Common.{◌++◌, ◌∷◌, [], None, ap, sym, ◌∙◌, arith}
use Rattle.std.proofs.lemmas.List.FromFn.{map-range_with_len_more}
use Rattle.map_core.proofs.plan_builder.none_accepted.Goals as goal

pub loop-preserved : goal.loop-preserved
loop-preserved c =
    c.in_ok-push.ensures.items
    ∙ ap (λ ps. ps ++ None ∷ []) c.loop.invariant
    ∙ sym (map-range_with_len_more (λ _. None) 0 c.loop.counter c.loop.counter (omega arith))
