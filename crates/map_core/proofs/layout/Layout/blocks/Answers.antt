use Rattle.std.proofs.Common.{◌≡◌, ◌+◌, true, map, sum, take, slice_index_or, refl, subst, sym, ap, ◌∙◌, arith}
use Rattle.std.proofs.lemmas.List.{take_all, take_more}
use Rattle.std.proofs.lemmas.List.Sums.{sum_by_more}
use Rattle.map_core.specs.Blocks.{runs_from}
use Rattle.map_core.specs.Checked.{IsChecked}
use Rattle.map_core.proofs.Blocks.{blocks_push, is_layout-blocks, length-runs, one_to_one-blocks, total-blocks}
use Rattle.map_core.proofs.layout.Layout.blocks.Goals as goal

pub loop-count-preserved : goal.loop-count-preserved
loop-count-preserved c =
    let counts = c.args.counts.now in
    let i = c.loop-count.count-index in
    let count = slice_index_or counts i 0 in
    record {
      first = ap (λ n. n + count) c.loop-count.invariant.first ∙ sym (sum_by_more (λ x. x) counts i 0 c.loop-count-test.true);
      lists = blocks_push (λ m. m.value) c.loop-count.first count (take i counts) (take (i + 1) counts) c.loop-count.maps.items c.push.new.self.items c.in_ok-strided.field-0
          (take_more counts i 0 c.loop-count-test.true) c.in_ok-push.ensures.items c.loop-count.invariant.lists c.in_ok-strided.ensures.kept c.loop-count.invariant.first;
    }

pub invariant_of-result : goal.invariant_of-result
invariant_of-result c =
    let counts = c.args.counts.now in
    let all : take c.loop-count.count-index counts ≡ counts = take_all c.loop-count.count-index counts c.loop-count-test.false in
    let size : c.loop-count.first ≡ sum counts = c.loop-count.invariant.first ∙ ap sum all in
    let lists : map (λ m. m.value) c.loop-count.maps.items ≡ runs_from 0 counts = c.loop-count.invariant.lists ∙ ap (runs_from 0) all in
    let many = length-runs 0 counts in
    subst (λ n. IsChecked (record { size = n; lists = map (λ m. m.value) c.loop-count.maps.items }) true true) (sym size)
    (subst (λ ls. IsChecked (record { size = sum counts; lists = ls }) true true) (sym lists)
    (record {
      some_rank = omega arith;
      ranks_limit = omega arith;
      is_layout = is_layout-blocks counts;
      one_to_one = ((λ _. one_to_one-blocks counts), (λ _. refl));
      total = ((λ _. total-blocks counts), (λ _. refl));
    }))
