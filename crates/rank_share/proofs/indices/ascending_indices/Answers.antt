use Rattle.std.proofs.Common.{sym, subst}
use Rattle.std.specs.List.Sorted.{IsPermutation, IsNonDecreasing}
use Rattle.std.proofs.lemmas.Bool.{MatchBool-at_true}
use Rattle.std.proofs.lemmas.List.Sorted.{IsPermutation-refl, non_decreasing_from_is_sorted, IsNonDecreasingBy-from_sort}
use Rattle.rank_share.proofs.Rising.{ascending-sorted}
use Rattle.rank_share.proofs.indices.ascending_indices.Goals as goal

pub returns-then-is_sorted : goal.returns-then-is_sorted
returns-then-is_sorted c =
    let up : IsNonDecreasing c.deref.result.now = MatchBool-at_true _ _ c.if-is_sorted.true (non_decreasing_from_is_sorted c.deref.result.now c.is_sorted.result c.is_sorted.ensures.cases) in
    record {
      ascending = ascending-sorted c.args.map.now c.in_ok-gids.gids.items
          (subst (λ xs. IsPermutation c.args.map.now xs) (sym c.in_ok-gids.ensures.list) (IsPermutation-refl c.args.map.now))
          (subst IsNonDecreasing c.deref.ensures.value up);
    }

pub returns : goal.returns
returns c = record {
  ascending = ascending-sorted c.args.map.now c.sort.new.self.items
      (subst (λ xs. IsPermutation xs c.sort.new.self.items) c.in_ok-gids.ensures.list c.in_ok-sort.ensures.permutation)
      (IsNonDecreasingBy-from_sort (λ x. x) c.sort.new.self.items c.in_ok-sort.ensures.sorted);
}
