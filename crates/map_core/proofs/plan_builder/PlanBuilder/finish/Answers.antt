use Rattle.std.proofs.Common.{◌≡◌, map, length, IfOk, ap, ◌∙◌, subst}
use Rattle.map_core.specs.Plans.{IsWithin}
use Rattle.map_core.specs.PlanBuilders.{plan_of}
use Rattle.map_core.proofs.Accepted.{plan_of-is, ok_along, IsWithin-plan_of}
use Rattle.map_core.proofs.plan_builder.PlanBuilder.finish.Goals as goal

pub returns-clause-plan : goal.returns-clause-plan
returns-clause-plan c =
    let in_self = c.self.inside in
    subst (λ lists. IfOk c.new.result (λ plan. plan ≡ lists))
    (plan_of-is in_self.me in_self.ranks in_self.same in_self.held.value in_self.parted.value in_self.parts in_self.accepted.items _ _ _ _ c.self.invariant
    (c.deref.ensures.value ∙ ap (λ p. p.permuted) c.parts.view_is)
    (c.deref-2.ensures.value ∙ ap (λ p. p.places) c.parts.view_is)
    (ap (map (λ v. v.items)) c.deref-3.ensures.value ∙ c.in_ok-exports.ensures.all)
    (ap (map (λ v. v.items)) c.deref-4.ensures.value ∙ ap (λ p. p.remotes) c.parts.view_is)
    ∙ ap plan_of c.self.view_is)
    c.new.ensures.plan

pub returns-clause-within : goal.returns-clause-within
returns-clause-within c =
    let in_self = c.self.inside in
    ok_along (IsWithin (length c.args.self.held) (length c.args.self.parted)) (plan_of c.args.self) c.new.result
    (subst (λ s. IsWithin (length s.held) (length s.parted) (plan_of s)) c.self.view_is
    (IsWithin-plan_of in_self.me in_self.ranks in_self.same in_self.held.value in_self.parted.value in_self.parts in_self.accepted.items c.self.invariant))
    (returns-clause-plan c)
