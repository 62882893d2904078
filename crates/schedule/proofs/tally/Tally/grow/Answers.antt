use Rattle.std.proofs.Common.{◌∙◌, ◌+◌, ◌++◌, length, replicate, ◌-◌, arith, ap, sym, subst}
use Rattle.schedule.specs.Tallies.{AreMarks, base, counts_of}
use Rattle.schedule.proofs.Tallies.{marks-longer, total-marks}
use Rattle.schedule.proofs.tally.Tally.grow.Goals as goal

pub tower-requires : goal.tower-requires
tower-requires c =
    let levels = counts_of c.self.inside.levels.items in
    let lowest = c.lowest.ensures ∙ ap (λ vs. base (counts_of vs)) c.deref.ensures.value in
    let is = c.in_ok-marks.ensures ∙ ap (λ l. l ++ replicate (length l + 32) 1) lowest in
    let are = subst AreMarks (sym is) (marks-longer (base levels) (length (base levels) + 32) c.self.invariant.1) in
    let few = total-marks c.in_ok-marks.marks.items are in
    omega (arith, few, c.in_ok-marks.marks.ok.0, c.in_ok-marks.marks.ok.1, c.in_ok-marks.marks.small)

pub invariant_of-self : goal.invariant_of-self
invariant_of-self c =
    let levels = counts_of c.self.inside.levels.items in
    let lowest = c.lowest.ensures ∙ ap (λ vs. base (counts_of vs)) c.deref.ensures.value in
    let is = c.in_ok-self-inside.ensures.lowest ∙ c.in_ok-marks.ensures ∙ ap (λ l. l ++ replicate (length l + 32) 1) lowest in
    (c.in_ok-self-inside.ensures.tower, subst AreMarks (sym is) (marks-longer (base levels) (length (base levels) + 32) c.self.invariant.1))
