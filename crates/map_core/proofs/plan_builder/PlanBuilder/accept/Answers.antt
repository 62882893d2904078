use Rattle.std.proofs.Common.{length, subst, ap, sym, ◌∙◌}
use Rattle.tables.specs.Indices.{AreBelow}
use Rattle.map_core.specs.Classes.{first_lacked, indices_at, places}
use Rattle.map_core.specs.PlanBuilders.{with_accepted}
use Rattle.map_core.proofs.Accepted.{accepted-set, none_lacked, IsBuilder-set}
use Rattle.map_core.proofs.plan_builder.PlanBuilder.accept.Goals as goal

pub invariant_of-self : goal.invariant_of-self
invariant_of-self c =
    let in_self = c.self.inside in
    let held = in_self.held.value in
    let gids = c.args.gids.now in
    let found = none_lacked held gids (ap (λ h. first_lacked h gids) (sym c.deref.ensures) ∙ c.in_ok-found.ensures.held) in
    let places_are = c.in_ok-found.ensures.places ∙ ap (λ h. places h gids) c.deref.ensures in
    IsBuilder-set in_self.me in_self.ranks in_self.same held in_self.parted.value in_self.parts in_self.accepted.items c.args.from c.in_ok-found.found c.self.invariant (subst (AreBelow (length held)) (sym places_are) found.below)

pub returns-clause-accepted : goal.returns-clause-accepted
returns-clause-accepted c =
    let in_self = c.self.inside in
    let held = in_self.held.value in
    let gids = c.args.gids.now in
    let found = none_lacked held gids (ap (λ h. first_lacked h gids) (sym c.deref.ensures) ∙ c.in_ok-found.ensures.held) in
    let places_are = c.in_ok-found.ensures.places ∙ ap (λ h. places h gids) c.deref.ensures in
    let accepted_are = accepted-set held in_self.accepted.items c.args.from c.in_ok-found.found gids (ap (indices_at held) places_are ∙ found.indices) in
    (λ t. record {
      me = in_self.me;
      ranks = in_self.ranks;
      held = held;
      parted = in_self.parted.value;
      lacked = in_self.parts.lacked;
      accepted = accepted_are t;
    }) ∙ ap (λ s. with_accepted s c.args.from gids) c.self.view_is
