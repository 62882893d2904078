use Rattle.std.proofs.Common.{rules, ◌∙◌, ◌<◌, length, ◌-◌, ◌*◌, ap, sym, subst}
use Rattle.schedule.specs.Tallies.{IsCounted, IsTower, counts_of, descended, located}
use Rattle.schedule.proofs.Tallies.{counted-above, found-below, pair-found, tower-above}
use Rattle.schedule.proofs.tally.+find.Goals as goal

pub find-pair-requires : goal.find-pair-requires
find-pair-requires t c =
    let e = ap counts_of c.in-Some.ensures.cases.0 in
    let tower = subst IsTower e c.requires.tower in
    let counted = subst (λ ls. IsCounted ls c.args.k) e c.requires.counted in (
      search rules,
      (
        tower-above c.in-Some.level.now.items (counts_of c.in-Some.above.now) tower,
        counted-above c.in-Some.level.now.items (counts_of c.in-Some.above.now) c.args.k tower counted,
      ),
    )

pub descend-requires : goal.descend-requires
descend-requires t c =
    let e = ap counts_of c.in-Some.ensures.cases.0 in
    let tower = subst IsTower e c.requires.tower in
    let counted = subst (λ ls. IsCounted ls c.args.k) e c.requires.counted in
    let found = pair-found c.in-Some.level.now.items (counts_of c.in-Some.above.now) c.args.k c.find-pair.result tower counted c.find-pair.ensures in
    subst (λ l. 2 * c.find-pair.result.0 < length l) (sym c.deref.ensures.value) found.within

pub returns-in-Some : goal.returns-in-Some
returns-in-Some t c =
    let e = ap counts_of c.in-Some.ensures.cases.0 in
    let tower = subst IsTower e c.requires.tower in
    let counted = subst (λ ls. IsCounted ls c.args.k) e c.requires.counted in
    let found = pair-found c.in-Some.level.now.items (counts_of c.in-Some.above.now) c.args.k c.find-pair.result tower counted c.find-pair.ensures in
    c.descend.ensures ∙ ap (λ l. descended l c.find-pair.result) c.deref.ensures.value
    ∙ sym (found-below c.in-Some.level.now.items (counts_of c.in-Some.above.now) c.args.k c.find-pair.result.0 c.find-pair.result.1 found)
    ∙ ap (λ ls. located ls c.args.k) (sym e)
