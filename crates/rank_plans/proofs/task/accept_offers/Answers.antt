use Rattle.std.proofs.Common.{◌≡◌, Some, None, All, get_or, slice_index_or, true, subst, sym, ap, ◌∙◌}
use Rattle.map_core.specs.Layouts.{stands}
use Rattle.map_core.specs.Classes.{first_lacked}
use Rattle.export_plan.specs.Exports.{Export, with_offer}
use Rattle.export_plan.specs.Faults.{IsOfferFault}
use Rattle.rank_plans.proofs.Wants.{none-lacked, want-all, want-first, want-next}
use Rattle.rank_plans.proofs.task.accept_offers.Goals as goal

pub accept_offer-requires-clause-first : goal.accept_offer-requires-clause-first
accept_offer-requires-clause-first c =
    let export = c.args.export.now in
    let told = c.args.told.now in
    ap {A = Export} (λ e. slice_index_or e.offers c.loop-at.at None) c.loop-at.invariant
    ∙ want-first told c.loop-at.at export.ranks export.offers c.requires.none c.requires.of_each c.loop-at-test.true

pub unreachable-requires : goal.unreachable-requires
unreachable-requires c =
    let export = c.args.export.now in
    let target = c.loop-at.export.target in
    let gs = c.deref.result.now in
    let told = c.args.told.now in
    let v = c.index-told-at.result in
    let entry : get_or told c.loop-at.at v ≡ v = sym c.index-told-at.is in
    let base : All (λ g. stands g export.target ≡ true) v.items = subst (λ w. All (λ g. stands g export.target ≡ true) w.items) entry (c.requires.held c.loop-at.at v c.loop-at-test.true) in
    let held : All (λ g. stands g target ≡ true) gs =
    subst (λ xs. All (λ g. stands g target ≡ true) xs) (sym c.deref.ensures.value)
    (subst (λ s. All (λ g. stands g s ≡ true) v.items) (sym (ap {A = Export} (λ e. e.target) c.loop-at.invariant)) base) in
    let none : first_lacked target gs ≡ None = none-lacked target gs held in
    let fault : first_lacked target gs ≡ Some c.in-Err-NotHeld.field-0-0 = subst (IsOfferFault target gs) c.in-Err-NotHeld.field-0-is c.in-Err-NotHeld.ensures.refused in
    let bad : ⊥ = cc in bad

pub loop-at-preserved : goal.loop-at-preserved
loop-at-preserved c =
    let export = c.args.export.now in
    let told = c.args.told.now in
    let at = c.loop-at.at in
    let gs = c.deref.result.now in
    c.in-Ok.ensures.accepted
    ∙ ap {A = Export} (λ e. with_offer e at gs) c.loop-at.invariant
    ∙ ap {B = Export} (λ ws. record export { offers = ws }) (want-next told at export.ranks export.offers c.index-told-at.result c.index-told-at.result gs c.requires.none c.requires.of_each c.loop-at-test.true (sym c.index-told-at.is) c.deref.ensures.value)

pub returns : goal.returns
returns c =
    let export = c.args.export.now in
    record {
      accepted = c.loop-at.invariant
          ∙ ap {B = Export} (λ ws. record export { offers = ws }) (want-all c.args.told.now c.loop-at.at export.ranks export.offers c.requires.none c.requires.of_each c.loop-at-test.false);
    }
