use Rattle.std.proofs.Common.{◌≡◌, ◌∙◌, ◌+◌, ◌-◌, ◌<◌, ◌++◌, ◌∷◌, [], true, false, not, length, ap, sym, eqb, get_or, cond, append-nil}
use Rattle.outside.specs.declared.name.Name.{Name}
use Rattle.schedule.specs.Registers.{picked}
use Rattle.schedule.proofs.Registers.{marked-step}
use Rattle.schedule.proofs.flow.marked.Goals as goal
use Rattle.schedule.proofs.flow.marked.Goals.{then-is_marked+in_ok-push, else-is_marked}

pub loop-number-preserved : goal.loop-number-preserved
loop-number-preserved c =
    let names = c.args.names.now in
    let marks = c.args.marks.now in
    let at = c.loop-number.number in
    let none : Name = record { phase = 0; from = 0; to = 0 } in
    let so-far = c.loop-number.found.items in
    let choice : not (eqb (get_or marks at 0) 0) ≡ c.is_marked.result = sym c.is_marked.ensures in
    let within : at < length names = c.loop-number-test.true in
    marked-step names marks at none so-far c.if-is_marked.found.items (picked names marks) within
    (elim c.if-is_marked.branch [
      | then-is_marked+in_ok-push w ↦
          ap (λ v. v.items) w.found-is ∙ w.in_ok-push.ensures.items
          ∙ ap (λ b. so-far ++ cond b (get_or names at none ∷ []) []) (sym (choice ∙ w.if-is_marked.true))
      | else-is_marked w ↦
          ap (λ v. v.items) w.found-is ∙ sym (append-nil so-far)
          ∙ ap (λ b. so-far ++ cond b (get_or names at none ∷ []) []) (sym (choice ∙ w.if-is_marked.false))
    ])
    c.loop-number.invariant
