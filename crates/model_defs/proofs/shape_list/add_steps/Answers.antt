use Rattle.std.proofs.Common.{◌≡◌, true, false, map, filter, take, get_or, length, cond, ◌++◌, [], ◌∷◌, sym, ap, ◌∙◌, arith}
use Rattle.std.proofs.lemmas.List.{map-append, append-nil}
use Rattle.model_defs.specs.Makers.{Made, gives_value}
use Rattle.model_defs.specs.Shapes.{shape_by}
use Rattle.model_defs.specs.ShapeLists.{shapes_from, at_list}
use Rattle.model_defs.proofs.ShapeLists.{shapes_from-push, filter-take}
use Rattle.model_defs.proofs.shape_list.add_steps.Goals as goal
use Rattle.model_defs.proofs.shape_list.add_steps.Goals.{then-gives+in_ok-push, else-gives}

pub loop-step-preserved : goal.loop-step-preserved
loop-step-preserved c =
    let start = c.args.shapes.now.items in
    let items = c.loop-step.shapes.items in
    let steps = c.args.steps.now in
    let at = c.loop-step.step-index in
    let step = c.step-item.result in
    let more = filter-take gives_value steps at step c.loop-step-test.true in
    elim c.if-gives.branch [
      | then-gives+in_ok-push w ↦
          let gives : gives_value (get_or steps at step) ≡ true = ap gives_value (sym c.step-item.is) ∙ sym c.gives.ensures ∙ w.if-gives.true in
          let count : w.len.result ≡ length items = (let len = w.len.ensures in let ok = c.loop-step.shapes.ok.0 in omega arith) in
          ap (λ v. v.items) w.shapes-is
          ∙ shapes_from-push start items w.push.new.self.items (map Made (filter gives_value (take at steps))) (Made (get_or steps at step)) _ c.loop-step.invariant w.in_ok-push.ensures.items
          (w.step_shape-shape.ensures ∙ (λ i. shape_by (count i) (at_list (w.as_slice.ensures.value i)) (Made (c.step-item.is i))))
          ∙ ap (shapes_from start) (sym (ap (map Made) (more ∙ ap (λ b. filter gives_value (take at steps) ++ cond b (get_or steps at step ∷ []) []) gives) ∙ map-append Made (filter gives_value (take at steps)) (get_or steps at step ∷ [])))
      | else-gives w ↦
          let gives : gives_value (get_or steps at step) ≡ false = ap gives_value (sym c.step-item.is) ∙ sym c.gives.ensures ∙ w.if-gives.false in
          ap (λ v. v.items) w.shapes-is ∙ c.loop-step.invariant
          ∙ ap (shapes_from start) (ap (map Made) (sym (more ∙ ap (λ b. filter gives_value (take at steps) ++ cond b (get_or steps at step ∷ []) []) gives ∙ append-nil (filter gives_value (take at steps)))))
    ]
