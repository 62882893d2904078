use Rattle.std.proofs.Common.{refl, sym, arith}
use Rattle.std.proofs.lemmas.Bool.{eq-eqb, eqb-true}
use Rattle.map_core.proofs.Strides.{same_by_count, same_none, same_steps, step_of_same}
use Rattle.map_core.proofs.stride.Stride.same_list.Goals as goal

pub returns-then-self-other : goal.returns-then-self-other
returns-then-self-other c =
    let a = c.self.inside in
    let b = c.other.inside in
    record { same = rw (sym c.self.view_is, sym c.other.view_is) ((λ h. absurd (cc)), (λ e. absurd (c.if-self-other.true (same_by_count a.first a.step b.first b.step a.count b.count e)))) }

pub returns-then-self-eq0 : goal.returns-then-self-eq0
returns-then-self-eq0 c =
    let a = c.self.inside in
    let b = c.other.inside in
    record { same = rw (sym c.self.view_is, sym c.other.view_is) ((λ _. same_none a.first a.step b.first b.step a.count b.count c.if-self-other.false c.if-self-eq0.true), (λ _. refl)) }

pub returns : goal.returns
returns c =
    let a = c.self.inside in
    let b = c.other.inside in
    let count = c.if-self-other.false in
    let some = c.if-self-eq0.false in
    let more = c.if-self-eq1.false in
    record {
      same = rw (sym c.self.view_is, sym c.other.view_is) (
        (λ h. same_steps a.first a.step b.first b.step a.count b.count count c.if-self-other-2.false (eqb-true a.step b.step h)),
        (λ e. eq-eqb a.step b.step (step_of_same a.first a.step b.first b.step a.count b.count (omega arith) e)),
      );
    }
