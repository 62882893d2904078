use Rattle.std.proofs.Common.{◌≡◌, ◌∙◌, ◌-◌, ◌<◌, length, arith, ap, sym, subst}
use Rattle.std.specs.List.{slice_get}
use Rattle.schedule.specs.Flights.{chosen}
use Rattle.schedule.specs.Choosers.{place}
use Rattle.schedule.specs.Registers.{picked}
use Rattle.schedule.proofs.Registers.{count-picked, mark-within, name-at}
use Rattle.schedule.proofs.flow.Flow.choose.Goals as goal

pub place-number-requires : goal.place-number-requires
place-number-requires c =
    omega (
      arith,
      c.draw-before.ensures.within,
      c.len.ensures.len,
      c.len-2.ensures,
      c.self.invariant.counted,
      c.self.inside.delivered.ok.0,
      count-picked c.self.inside.posted c.self.inside.marks,
    )

pub name-requires : goal.name-requires
name-requires c =
    let within : c.draw-before.result < length (picked c.self.inside.posted c.self.inside.marks) =
    omega (arith, c.draw-before.ensures.within, c.len.ensures.len, c.len-2.ensures, c.self.invariant.counted, c.self.inside.delivered.ok.0) in
    subst (λ k. k < length c.self.inside.posted) (sym c.place-number.ensures) (mark-within c.self.inside.posted c.self.inside.marks c.draw-before.result within)

pub returns-clause-chosen : goal.returns-clause-chosen
returns-clause-chosen c =
    let flying = picked c.self.inside.posted c.self.inside.marks in
    let within : c.draw-before.result < length flying =
    omega (arith, c.draw-before.ensures.within, c.len.ensures.len, c.len-2.ensures, c.self.invariant.counted, c.self.inside.delivered.ok.0) in
    let count : c.len.result - c.len-2.result ≡ length flying =
    omega (arith, c.len.ensures.len, c.len-2.ensures, c.self.invariant.counted, c.self.inside.delivered.ok.0) in
    sym c.name.ensures ∙ ap (slice_get c.self.inside.posted) c.place-number.ensures
    ∙ name-at c.self.inside.posted c.self.inside.marks c.draw-before.result within
    ∙ ap (slice_get flying) c.draw-before.ensures.place
    ∙ ap (λ k. slice_get flying (place c.args.chooser.now k)) count
    ∙ ap (λ f. chosen c.args.chooser.now f.in_flight) c.self.view_is
