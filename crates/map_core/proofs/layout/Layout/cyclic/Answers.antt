use Rattle.std.proofs.Common.{◌≡◌, true, map, refl, subst, sym, ap, ◌∙◌, arith}
use Rattle.std.specs.List.{range_with_len}
use Rattle.map_core.specs.Checked.{IsChecked}
use Rattle.map_core.specs.Cyclic.{cyclic_layout, cyclic_list}
use Rattle.map_core.proofs.Cyclic.{cyclic_push, is_layout-cyclic, length-cyclic, one_to_one-cyclic, total-cyclic}
use Rattle.map_core.proofs.layout.Layout.cyclic.Goals as goal

pub loop-rank-preserved : goal.loop-rank-preserved
loop-rank-preserved c =
    cyclic_push (λ m. m.value) c.args.ranks c.args.size c.loop-rank.rank c.uniform_len-count.result c.loop-rank.maps.items c.push.new.self.items c.in_ok-strided.field-0
    c.loop-rank-test.true c.in_ok-push.ensures.items c.loop-rank.invariant c.in_ok-strided.ensures.kept c.uniform_len-count.ensures.len

pub invariant_of-result : goal.invariant_of-result
invariant_of-result c =
    let P = c.args.ranks in
    let n = c.args.size in
    let all : c.loop-rank.rank ≡ P = let end = c.loop-rank.auto.rank-end in let test = c.loop-rank-test.false in omega arith in
    let lists : map (λ m. m.value) c.loop-rank.maps.items ≡ (cyclic_layout P n).lists =
    c.loop-rank.invariant ∙ ap (λ k. map (cyclic_list P n) (range_with_len 0 k)) all in
    let many = length-cyclic P n in
    subst (λ ls. IsChecked (record { size = n; lists = ls }) true true) (sym lists)
    (record {
      some_rank = omega arith;
      ranks_limit = omega arith;
      is_layout = is_layout-cyclic P n;
      one_to_one = ((λ _. one_to_one-cyclic P n), (λ _. refl));
      total = ((λ _. total-cyclic P n c.requires.some_rank), (λ _. refl));
    })
