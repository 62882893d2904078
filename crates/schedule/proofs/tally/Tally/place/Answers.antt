use Rattle.std.proofs.Common.{◌∙◌, ◌<◌, ◌-◌, ap, sym, subst}
use Rattle.schedule.specs.Tallies.{IsCounted, counts_of, located, mark_count, mark_place}
use Rattle.schedule.proofs.Tallies.{counted-base, located-base}
use Rattle.schedule.proofs.tally.Tally.place.Goals as goal

pub find-requires-clause-counted : goal.find-requires-clause-counted
find-requires-clause-counted c =
    let levels = counts_of c.self.inside.levels.items in
    subst (λ vs. IsCounted (counts_of vs) c.args.before) (sym c.deref.ensures.value)
    (counted-base levels c.args.before c.self.invariant.1 (subst (λ m. c.args.before < mark_count m) (sym c.self.view_is) c.requires))

pub returns : goal.returns
returns c =
    let levels = counts_of c.self.inside.levels.items in
    ap (λ f. f.0) c.find.ensures
    ∙ ap (λ vs. (located (counts_of vs) c.args.before).0) c.deref.ensures.value
    ∙ located-base levels c.args.before c.self.invariant.1 (subst (λ m. c.args.before < mark_count m) (sym c.self.view_is) c.requires)
    ∙ ap (λ m. mark_place m c.args.before) c.self.view_is
