use Rattle.std.proofs.Common.{◌≡◌, ◌<◌, None, [], length, map, set, subst, sym, ap, ◌∙◌, arith}
use Rattle.std.proofs.lemmas.List.{length-map, length-set, map-set}
use Rattle.std.proofs.lemmas.List.FromFn.{length-map-range_with_len}
use Rattle.map_core.specs.Homes.{homed}
use Rattle.rank_plans.specs.Answers.{AreRanks}
use Rattle.rank_plans.specs.Tasks.{only_of}
use Rattle.rank_plans.proofs.Known.{AreRanks-none}
use Rattle.rank_plans.proofs.Wants.{set-only}
use Rattle.rank_plans.proofs.task.PlanTask.asking.Goals as goal

pub index_mut-requires : goal.index_mut-requires
index_mut-requires c =
    let lists = c.in_ok-asked.asked.items in
    let each : length lists ≡ c.args.ranks = sym (length-map lists (λ v. v.items)) ∙ ap length c.in_ok-asked.ensures.empty ∙ length-map-range_with_len (λ _. []) 0 c.args.ranks in
    subst (λ n. c.args.me < n) (sym (c.in_ok-asked.asked.ok.0 ∙ each)) c.requires.own_rank

pub invariant_of-result : goal.invariant_of-result
invariant_of-result c =
    let P = c.args.ranks in
    let lists = c.in_ok-asked.asked.items in
    let lacking = c.args.lacking.items in
    let each : length lists ≡ P = sym (length-map lists (λ v. v.items)) ∙ ap length c.in_ok-asked.ensures.empty ∙ length-map-range_with_len (λ _. []) 0 P in
    let owners : c.in_ok-owners.owners.items ≡ map (λ _. None) lacking = c.in_ok-owners.ensures.unknown ∙ ap (map (λ _. None)) c.deref.ensures.value in
    let own_rank : c.args.me < P = c.requires.own_rank in
    record {
      some_rank = omega arith;
      ranks_limit = c.requires.ranks_limit;
      size_limit = c.requires.size_limit;
      below = c.requires.below;
      distinct = c.requires.distinct;
      beside = ap length owners ∙ length-map lacking (λ _. None);
      known = subst (AreRanks P) (sym owners) (AreRanks-none P lacking);
      asked = length-map (set lists c.args.me c.in_ok-own.own) (λ v. v.items) ∙ length-set lists c.args.me c.in_ok-own.own ∙ each;
      told = ap length c.in_ok-told.ensures.empty ∙ length-map-range_with_len (λ _. []) 0 P;
    }

pub returns : goal.returns
returns c =
    let P = c.args.ranks in
    let me = c.args.me in
    let lists = c.in_ok-asked.asked.items in
    let lacking = c.args.lacking.items in
    let owners : c.in_ok-owners.owners.items ≡ map (λ _. None) lacking = c.in_ok-owners.ensures.unknown ∙ ap (map (λ _. None)) c.deref.ensures.value in
    let own : c.in_ok-own.own.items ≡ homed P c.args.size me lacking = c.in_ok-own.ensures.asked ∙ ap (homed P c.args.size me) c.deref-2.ensures.value in
    let asked : map (λ v. v.items) (set lists me c.in_ok-own.own) ≡ only_of me P (homed P c.args.size me lacking) =
    map-set (λ v. v.items) lists me c.in_ok-own.own ∙ (λ i. set (c.in_ok-asked.ensures.empty i) me (own i)) ∙ set-only P me (homed P c.args.size me lacking) c.requires.own_rank in
    record {
      begun = λ t. record {
        plan = c.args.plan;
        ranks = P;
        size = c.args.size;
        lacking = lacking;
        owners = owners t;
        asked = asked t;
        told = c.in_ok-told.ensures.empty t;
        made = None;
      };
    }
