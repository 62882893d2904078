use Rattle.std.proofs.Common.{◌∙◌, ◌+◌, ◌++◌, length, slice_set, ◌-◌, ap, sym, subst, eqb, get_or, take, drop}
use Rattle.schedule.specs.Tallies.{AreMarks, CanLower, IsTower, base, counts_of, lowered}
use Rattle.schedule.proofs.Tallies.{lowered-base, lowered-tower, mark-lowers, marks-cleared}
use Rattle.std.proofs.Math.Seq.{take-append_seam}
use Rattle.schedule.proofs.tally.Tally.clear.Goals as goal

pub lower-requires : goal.lower-requires
lower-requires c =
    let levels = counts_of c.self.inside.levels.items in
    subst (λ vs. CanLower c.args.at (counts_of vs)) (sym c.deref_mut.ensures.value)
    (mark-lowers levels c.args.at c.self.invariant.0 (ap (λ m. eqb (get_or m c.args.at 0) 0) c.self.view_is ∙ c.requires))

pub invariant_of-self : goal.invariant_of-self
invariant_of-self c =
    let levels = counts_of c.self.inside.levels.items in
    let now = c.lower.new.levels in
    let mark = ap (λ m. eqb (get_or m c.args.at 0) 0) c.self.view_is ∙ c.requires in
    let rest = drop (length now) c.self.inside.levels.items in
    let is = c.lower.ensures ∙ ap (λ vs. lowered c.args.at (counts_of vs)) c.deref_mut.ensures.value in
    let whole = ap (λ n. take n (now ++ rest)) (sym (c.lower.auto.levels ∙ c.deref_mut.ensures.len)) ∙ take-append_seam now rest in
    subst (λ vs. IsTower (counts_of vs) × AreMarks (base (counts_of vs))) (sym whole) (
      subst IsTower (sym is) (lowered-tower levels c.args.at c.self.invariant.0 (mark-lowers levels c.args.at c.self.invariant.0 mark)),
      subst (λ ls. AreMarks (base ls)) (sym is)
          (subst AreMarks (sym (lowered-base levels c.args.at c.self.invariant.1 mark)) (marks-cleared (base levels) c.args.at c.self.invariant.1)),
    )

pub returns : goal.returns
returns c =
    let levels = counts_of c.self.inside.levels.items in
    let now = c.lower.new.levels in
    let mark = ap (λ m. eqb (get_or m c.args.at 0) 0) c.self.view_is ∙ c.requires in
    let rest = drop (length now) c.self.inside.levels.items in
    let is = c.lower.ensures ∙ ap (λ vs. lowered c.args.at (counts_of vs)) c.deref_mut.ensures.value in
    let whole = ap (λ n. take n (now ++ rest)) (sym (c.lower.auto.levels ∙ c.deref_mut.ensures.len)) ∙ take-append_seam now rest in
    ap (λ vs. base (counts_of vs)) whole ∙ ap base is ∙ lowered-base levels c.args.at c.self.invariant.1 mark
    ∙ ap (λ m. slice_set m c.args.at 0) c.self.view_is
