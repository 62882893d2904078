use Rattle.std.proofs.Common.{◌≡◌, ◌<◌, [], length, map, slice_set, slice_index_or, subst, sym, ap, ◌∙◌}
use Rattle.std.proofs.lemmas.List.{get_or-set_same}
use Rattle.std.proofs.lemmas.List.{map-set}
use Rattle.rank_plans.specs.Tasks.{Task}
use Rattle.rank_plans.proofs.task.PlanTask.absorb_questions.Goals as goal

pub returns-clause-absorbed : goal.returns-clause-absorbed
returns-clause-absorbed c =
    let kept = c.self.inside in
    let from = c.args.from in
    let words = c.args.words.now in
    let changed : map (λ v. v.items) (slice_set kept.asked.items from c.in_ok-self-inside.field-0) ≡ slice_set (map (λ v. v.items) kept.asked.items) from words =
    map-set (λ v. v.items) kept.asked.items from c.in_ok-self-inside.field-0 ∙ ap (slice_set (map (λ v. v.items) kept.asked.items) from) c.in_ok-self-inside.ensures.items in
    (λ t. record {
      plan = kept.plan;
      ranks = kept.ranks;
      size = kept.size;
      lacking = kept.lacking.items;
      owners = kept.owners.items;
      asked = changed t;
      told = map (λ v. v.items) kept.told.items;
      made = kept.made;
    }) ∙ ap {A = Task} (λ s. record s { asked = slice_set s.asked from words }) c.self.view_is

pub returns-clause-asked : goal.returns-clause-asked
returns-clause-asked c =
    let kept = c.self.inside in
    let from = c.args.from in
    let words = c.args.words.now in
    let changed : map (λ v. v.items) (slice_set kept.asked.items from c.in_ok-self-inside.field-0) ≡ slice_set (map (λ v. v.items) kept.asked.items) from words =
    map-set (λ v. v.items) kept.asked.items from c.in_ok-self-inside.field-0 ∙ ap (slice_set (map (λ v. v.items) kept.asked.items) from) c.in_ok-self-inside.ensures.items in
    let low : from < length (map (λ v. v.items) kept.asked.items) = subst (λ n. from < n) (sym (c.self.invariant.asked ∙ ap (λ s. s.ranks) c.self.view_is)) c.requires.known_rank in
    ap (λ ls. slice_index_or ls from []) changed ∙ get_or-set_same (map (λ v. v.items) kept.asked.items) from words [] low
