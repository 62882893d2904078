use Rattle.std.proofs.Common.{◌≡◌, true, map, subst, sym, ap, ◌∙◌, refl, arith}
use Rattle.std.specs.List.{range_with_len}
use Rattle.map_core.specs.Checked.{IsChecked}
use Rattle.map_core.specs.Uniform.{uniform_layout, uniform_list}
use Rattle.map_core.proofs.Contiguous.{first_next, first_room, is_layout-uniform, length-uniform, lists_push, one_to_one, total}
use Rattle.map_core.proofs.layout.Layout.uniform.Goals as goal

pub strided-requires-clause-room : goal.strided-requires-clause-room
strided-requires-clause-room c =
    let room = first_room c.args.ranks c.args.size c.loop-rank.rank c.requires.some_rank c.loop-rank-test.true in
    let first = c.loop-rank.invariant.first in
    let count = c.uniform_len-count.ensures.len in
    let limit = c.requires.size_limit in
    omega arith

pub loop-rank-preserved : goal.loop-rank-preserved
loop-rank-preserved c =
    let P = c.args.ranks in
    let n = c.args.size in
    record {
      first = let next = first_next P n c.loop-rank.rank in let first = c.loop-rank.invariant.first in omega arith;
      lists = lists_push (λ m. m.value) P n c.loop-rank.rank c.loop-rank.first c.uniform_len-count.result c.loop-rank.maps.items c.push.new.self.items c.in_ok-strided.field-0
          c.in_ok-push.ensures.items c.loop-rank.invariant.lists c.in_ok-strided.ensures.kept c.loop-rank.invariant.first c.uniform_len-count.ensures.len;
    }

pub invariant_of-result : goal.invariant_of-result
invariant_of-result c =
    let P = c.args.ranks in
    let n = c.args.size in
    let all : c.loop-rank.rank ≡ P = let end = c.loop-rank.auto.rank-end in let test = c.loop-rank-test.false in omega arith in
    let lists : map (λ m. m.value) c.loop-rank.maps.items ≡ (uniform_layout P n).lists =
    c.loop-rank.invariant.lists ∙ ap (λ k. map (uniform_list P n) (range_with_len 0 k)) all in
    let many = length-uniform P n in
    subst (λ ls. IsChecked (record { size = n; lists = ls }) true true) (sym lists)
    (record {
      some_rank = omega arith;
      ranks_limit = omega arith;
      is_layout = is_layout-uniform P n c.requires.some_rank;
      one_to_one = ((λ _. one_to_one P n c.requires.some_rank), (λ _. refl));
      total = ((λ _. total P n c.requires.some_rank), (λ _. refl));
    })
