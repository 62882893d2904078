use Rattle.std.proofs.Common.{[], ◌∷◌, ◌++◌, map, sym, ap, ◌∙◌, arith}
use Rattle.std.specs.List.{range_with_len}
use Rattle.std.proofs.lemmas.List.{map-append}
use Rattle.std.proofs.lemmas.List.FromFn.{map-range_with_len_more}
use Rattle.rank_plans.proofs.task.empty_lists.Goals as goal

pub loop-preserved : goal.loop-preserved
loop-preserved c =
    ap (map (λ v. v.items)) c.in_ok-push.ensures.items
    ∙ map-append (λ v. v.items) c.loop.lists.items (c.new.result ∷ [])
    ∙ ap (λ ls. ls ++ c.new.result.items ∷ []) c.loop.invariant
    ∙ ap (λ l. map (λ _. []) (range_with_len 0 c.loop.counter) ++ l ∷ []) c.new.ensures.items
    ∙ sym (map-range_with_len_more (λ _. []) 0 c.loop.counter c.loop.counter (omega arith))
