use Rattle.std.proofs.Common.{◌≡◌, Some, None, All, get_or, slice_index_or, true, subst, sym, ap, ◌∙◌}
use Rattle.map_core.specs.Layouts.{stands}
use Rattle.map_core.specs.Classes.{first_lacked}
use Rattle.import_plan.specs.Imports.{Import, with_want}
use Rattle.import_plan.specs.Faults.{IsWantFault}
use Rattle.rank_plans.proofs.Wants.{none-lacked, want-all, want-first, want-next}
use Rattle.rank_plans.proofs.task.accept_all.Goals as goal

pub accept_want-requires-clause-first : goal.accept_want-requires-clause-first
accept_want-requires-clause-first c =
    let import = c.args.import.now in
    let told = c.args.told.now in
    ap {A = Import} (λ i. slice_index_or i.wants c.loop-at.at None) c.loop-at.invariant
    ∙ want-first told c.loop-at.at import.ranks import.wants c.requires.none c.requires.of_each c.loop-at-test.true

pub unreachable-requires : goal.unreachable-requires
unreachable-requires c =
    let import = c.args.import.now in
    let source = c.loop-at.import.source in
    let gs = c.deref.result.now in
    let told = c.args.told.now in
    let v = c.index-told-at.result in
    let entry : get_or told c.loop-at.at v ≡ v = sym c.index-told-at.is in
    let base : All (λ g. stands g import.source ≡ true) v.items = subst (λ w. All (λ g. stands g import.source ≡ true) w.items) entry (c.requires.held c.loop-at.at v c.loop-at-test.true) in
    let held : All (λ g. stands g source ≡ true) gs =
    subst (λ xs. All (λ g. stands g source ≡ true) xs) (sym c.deref.ensures.value)
    (subst (λ s. All (λ g. stands g s ≡ true) v.items) (sym (ap {A = Import} (λ i. i.source) c.loop-at.invariant)) base) in
    let none : first_lacked source gs ≡ None = none-lacked source gs held in
    let fault : first_lacked source gs ≡ Some c.in-Err-NotHeld.field-0-0 = subst (IsWantFault source gs) c.in-Err-NotHeld.field-0-is c.in-Err-NotHeld.ensures.refused in
    let bad : ⊥ = cc in bad

pub loop-at-preserved : goal.loop-at-preserved
loop-at-preserved c =
    let import = c.args.import.now in
    let told = c.args.told.now in
    let at = c.loop-at.at in
    let gs = c.deref.result.now in
    c.in-Ok.ensures.accepted
    ∙ ap {A = Import} (λ i. with_want i at gs) c.loop-at.invariant
    ∙ ap {B = Import} (λ ws. record import { wants = ws }) (want-next told at import.ranks import.wants c.index-told-at.result c.index-told-at.result gs c.requires.none c.requires.of_each c.loop-at-test.true (sym c.index-told-at.is) c.deref.ensures.value)

pub returns : goal.returns
returns c =
    let import = c.args.import.now in
    record {
      accepted = c.loop-at.invariant
          ∙ ap {B = Import} (λ ws. record import { wants = ws }) (want-all c.args.told.now c.loop-at.at import.ranks import.wants c.requires.none c.requires.of_each c.loop-at-test.false);
    }
