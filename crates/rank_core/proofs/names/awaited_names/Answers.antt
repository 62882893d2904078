use Rattle.std.proofs.Common.{◌≡◌, Bool, length, nat_lt, sym, ap, ◌∙◌}
use Rattle.std.specs.List.{filter}
use Rattle.std.proofs.lemmas.List.{take_all}
use Rattle.outside.specs.declared.name.Name.{Name}
use Rattle.rank_makings.specs.Comings.{Scene, rows_between}
use Rattle.rank_core.proofs.KeptNames.{kept-more, left-out}
use Rattle.rank_core.proofs.names.awaited_names.Goals as goal
use Rattle.rank_core.proofs.names.awaited_names.Goals.{then-has_letter_from+in_ok-push, else-has_letter_from}

-- whether some row goes with a letter
abbrev test : {S : Type 0} → Scene S → Name → Bool
test e n = nat_lt 0 (length (rows_between e n.from e.me))

pub loop-name-preserved : goal.loop-name-preserved
loop-name-preserved g c = λ e is known.
    let low = c.loop-name-test.true in
    let told = c.has_letter_from.ensures.rows e is (known c.loop-name.name-index _ low) in
    elim c.if-has_letter_from.branch [
      | then-has_letter_from+in_ok-push w ↦
          kept-more (test e) c.args.names.now c.loop-name.name-index _ low (sym told ∙ w.if-has_letter_from.true)
          c.loop-name.awaited.items c.if-has_letter_from.awaited.items (c.loop-name.invariant e is known) (ap (λ o. o.items) w.awaited-is ∙ w.in_ok-push.ensures.items)
      | else-has_letter_from w ↦
          ap (λ o. o.items) w.awaited-is
          ∙ left-out (test e) c.args.names.now c.loop-name.name-index _ low (sym told ∙ w.if-has_letter_from.false) c.loop-name.awaited.items (c.loop-name.invariant e is known)
    ]

pub returns : goal.returns
returns g c = record {
  names = λ e is known. c.loop-name.invariant e is known ∙ ap (filter (test e)) (take_all c.loop-name.name-index c.args.names.now c.loop-name-test.false);
}
