use Rattle.std.proofs.Common.{◌++◌, ◌∷◌, [], ◌<◌, length, map, subst, sym, ap, ◌∙◌, arith}
use Rattle.std.proofs.lemmas.List.{map-append, map_more, take_all}
use Rattle.crs_matrix.specs.Stored.{cells_at, places_of, IsStored}
use Rattle.crs_matrix.proofs.Kept.{IsStored-empty, cells-empty}
use Rattle.crs_matrix.proofs.fill.MatrixFill.new.Goals as goal

pub loop-preserved : goal.loop-preserved
loop-preserved g c =
    let many = c.len-end.ensures.len in
    let rows = ap length c.deref-2.ensures in
    let low = c.loop-test.true in
    let within : c.loop.counter < length c.args.rows.value = omega arith in
    ap places_of c.in_ok-push.ensures.items
    ∙ map-append (λ v. v.items) c.loop.places.items (c.new.result ∷ [])
    ∙ (λ t. c.loop.invariant t ++ c.new.ensures.items t ∷ [])
    ∙ sym (map_more (λ _. []) c.args.rows.value c.loop.counter 0 within)

pub invariant_of-result : goal.invariant_of-result
invariant_of-result g c =
    let many = c.len-end.ensures.len in
    let rows = ap length c.deref-2.ensures in
    let past = c.loop-test.false in
    subst (λ ls. IsStored c.args.rows.value ls (length c.new-2.result.items))
    (sym (c.loop.invariant ∙ ap (map (λ _. [])) (take_all c.loop.counter c.args.rows.value (omega arith))))
    (subst (λ n. IsStored c.args.rows.value (map (λ _. []) c.args.rows.value) n) (sym (ap length c.new-2.ensures.items)) (IsStored-empty c.args.rows.value))

pub returns : goal.returns
returns g c =
    let many = c.len-end.ensures.len in
    let rows = ap length c.deref-2.ensures in
    let past = c.loop-test.false in
    let cells = ap (map (cells_at c.new-2.result.items)) (c.loop.invariant ∙ ap (map (λ _. [])) (take_all c.loop.counter c.args.rows.value (omega arith)))
    ∙ cells-empty c.new-2.result.items c.args.rows.value in
    record { empty = λ t. record { rows = c.args.rows.value; cells = cells t } }
