use Rattle.std.proofs.Common.{length, map, subst, ap, ◌∙◌}
use Rattle.map_core.specs.Classes.{same_count}
use Rattle.map_core.specs.BuilderFields.{accepted_indices}
use Rattle.map_core.specs.Layouts.{AreDistinct}
use Rattle.map_core.specs.Parts.{parts_below}
use Rattle.map_core.proofs.Accepted.{accepted-none, IsBuilder-start}
use Rattle.map_core.proofs.plan_builder.PlanBuilder.start.Goals as goal

pub invariant_of-result : goal.invariant_of-result
invariant_of-result c =
    IsBuilder-start c.args.me c.args.ranks c.same_len-same.result c.args.held.now.value c.args.parted.now.value _ _ c.args.owners.now c.in_ok-parts.parts c.in_ok-accepted.accepted.items
    c.in_ok-held.ensures.cases c.in_ok-parted.ensures.cases c.requires.known c.requires.ranks_limit
    (subst AreDistinct c.deref.ensures c.same_len-same.ensures.held_distinct)
    (subst AreDistinct c.deref-2.ensures c.same_len-same.ensures.parted_distinct)
    (c.same_len-same.ensures.same ∙ (λ t. same_count (c.deref.ensures t) (c.deref-2.ensures t)))
    (c.in_ok-parts.ensures.parts ∙ (λ t. parts_below c.args.ranks (c.deref-3.ensures t) (c.deref-4.ensures t) c.args.owners.now (length (c.deref-4.ensures t))))
    c.in_ok-accepted.ensures.none

pub returns : goal.returns
returns c =
    let parts = c.in_ok-parts.ensures.parts ∙ (λ t. parts_below c.args.ranks (c.deref-3.ensures t) (c.deref-4.ensures t) c.args.owners.now (length (c.deref-4.ensures t))) in
    record {
      started = λ t. record {
        me = c.args.me;
        ranks = c.args.ranks;
        held = c.in_ok-held.ensures.cases t;
        parted = c.in_ok-parted.ensures.cases t;
        lacked = (parts t).lacked;
        accepted = (ap (map (accepted_indices c.in_ok-held.held.value)) c.in_ok-accepted.ensures.none ∙ accepted-none c.in_ok-held.held.value 0 c.args.ranks) t;
      };
    }
