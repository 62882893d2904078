use Rattle.std.proofs.Common.{◌≡◌, cond, length, subst, sym, ap, ◌∙◌}
use Rattle.map_core.specs.Layouts.{stands}
use Rattle.map_core.specs.Homes.{homed, is_home}
use Rattle.rank_plans.specs.Answers.{answered, filled, known_at, AreRanks}
use Rattle.rank_plans.proofs.Known.{known-filled, length-filled, AreRanks-filled}
use Rattle.rank_plans.proofs.task.PlanTask.absorb_answers.Goals as goal

pub invariant_of-self : goal.invariant_of-self
invariant_of-self c =
    let kept = c.self.inside in
    let v = c.self.invariant in
    let words = c.args.words.now in
    let test = is_home kept.ranks kept.size c.args.from in
    let is : c.in_ok-self-inside.field-0.items ≡ filled test kept.ranks kept.lacking.items kept.owners.items words =
    c.in_ok-self-inside.ensures.filled ∙ (λ i. filled test kept.ranks (c.deref.ensures.value i) (c.deref-2.ensures.value i) words) in
    record {
      some_rank = v.some_rank;
      ranks_limit = v.ranks_limit;
      size_limit = v.size_limit;
      below = v.below;
      distinct = v.distinct;
      beside = ap length is ∙ length-filled test kept.ranks kept.lacking.items kept.owners.items words ∙ v.beside;
      known = subst (AreRanks kept.ranks) (sym is) (AreRanks-filled test kept.ranks kept.lacking.items kept.owners.items words v.known);
      asked = v.asked;
      told = v.told;
    }

pub returns-clause-known : goal.returns-clause-known
returns-clause-known c =
    let kept = c.self.inside in
    let from = c.args.from in
    let words = c.args.words.now in
    let test = is_home kept.ranks kept.size from in
    let is : c.in_ok-self-inside.field-0.items ≡ filled test kept.ranks kept.lacking.items kept.owners.items words =
    c.in_ok-self-inside.ensures.filled ∙ (λ i. filled test kept.ranks (c.deref.ensures.value i) (c.deref-2.ensures.value i) words) in
    λ n g.
    ap (λ os. known_at kept.lacking.items os g) is
    ∙ known-filled test kept.ranks kept.lacking.items kept.owners.items words g c.self.invariant.beside (n ∙ sym (ap (λ s. length (homed s.ranks s.size from s.lacking)) c.self.view_is))
    ∙ ap (λ s. cond (stands g (homed s.ranks s.size from s.lacking)) (answered s.ranks (homed s.ranks s.size from s.lacking) words g) (known_at s.lacking s.owners g)) c.self.view_is
