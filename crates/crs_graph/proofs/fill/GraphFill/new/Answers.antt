use Rattle.std.proofs.Common.{◌++◌, ◌∷◌, [], ◌<◌, length, map, subst, sym, ap, ◌∙◌, arith}
use Rattle.std.proofs.lemmas.List.{map-append, map_more, take_all}
use Rattle.crs_graph.specs.Fills.{columns_of, IsFill}
use Rattle.crs_graph.proofs.Fills.{IsFill-empty}
use Rattle.crs_graph.proofs.fill.GraphFill.new.Goals as goal

pub loop-preserved : goal.loop-preserved
loop-preserved c =
    let many = c.len-end.ensures.len in
    let rows = ap length c.deref-2.ensures in
    let low = c.loop-test.true in
    let within : c.loop.counter < length c.args.rows.value = omega arith in
    ap columns_of c.in_ok-push.ensures.items
    ∙ map-append (λ v. v.items) c.loop.columns.items (c.new.result ∷ [])
    ∙ (λ t. c.loop.invariant t ++ c.new.ensures.items t ∷ [])
    ∙ sym (map_more (λ _. []) c.args.rows.value c.loop.counter 0 within)

pub invariant_of-result : goal.invariant_of-result
invariant_of-result c =
    let many = c.len-end.ensures.len in
    let rows = ap length c.deref-2.ensures in
    let past = c.loop-test.false in
    subst (λ ls. IsFill (record { rows = c.args.rows.value; columns = ls }))
    (sym (c.loop.invariant ∙ ap (map (λ _. [])) (take_all c.loop.counter c.args.rows.value (omega arith))))
    (IsFill-empty c.args.rows.value)
