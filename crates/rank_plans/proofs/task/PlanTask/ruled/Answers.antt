use Rattle.std.proofs.Common.{◌≡◌, ◌<◌, [], length, map, subst, sym, ap, ◌∙◌}
use Rattle.std.proofs.lemmas.List.{length-map}
use Rattle.std.proofs.lemmas.List.FromFn.{length-map-range_with_len}
use Rattle.map_core.specs.Layouts.{owner}
use Rattle.map_core.specs.Uniform.{uniform_layout, uniform_list}
use Rattle.map_core.proofs.Owners.{owner-below}
use Rattle.rank_plans.specs.Answers.{AreRanks}
use Rattle.rank_plans.proofs.Known.{AreRanks-map}
use Rattle.rank_plans.proofs.task.PlanTask.ruled.Goals as goal

pub invariant_of-result : goal.invariant_of-result
invariant_of-result c =
    let P = c.args.ranks in
    let rule = owner (uniform_layout P c.args.size) in
    let owners : c.in_ok-owners.owners.items ≡ map rule c.args.lacking.items = c.in_ok-owners.ensures.owners ∙ ap (map rule) c.deref.ensures.value in
    record {
      some_rank = c.requires.some_rank;
      ranks_limit = c.requires.ranks_limit;
      size_limit = c.requires.size_limit;
      below = c.requires.below;
      distinct = c.requires.distinct;
      beside = ap length owners ∙ length-map c.args.lacking.items rule;
      known = subst (AreRanks P) (sym owners) (AreRanks-map P rule c.args.lacking.items
          (λ g q e. subst (λ n. q < n) (length-map-range_with_len (uniform_list P c.args.size) 0 P) (owner-below (uniform_layout P c.args.size) g q e)));
      asked = ap length c.in_ok-asked.ensures.empty ∙ length-map-range_with_len (λ _. []) 0 P;
      told = ap length c.in_ok-told.ensures.empty ∙ length-map-range_with_len (λ _. []) 0 P;
    }
