use Rattle.std.proofs.Common.{◌≡◌, ◌<◌, ℕ, List, [], map, length, get_or, nat_eq, below_more, subst, sym, ap, ◌∙◌, arith}
use Rattle.std.proofs.lemmas.List.{length-map, take_all}
use Rattle.map_core.specs.Checked.{IsChecked}
use Rattle.map_core.specs.Faults.{IsRankFaultOf, IsSound}
use Rattle.map_core.specs.Layouts.{IsLayout}
use Rattle.map_core.proofs.MapFaults.{fault_of_rank}
use Rattle.map_core.proofs.Unions.{AreSound, checked_by_count, is_layout-sound, list_at, maps_push}
use Rattle.map_core.proofs.layout.Layout.from_lists.Goals as goal

pub loop-rank-preserved : goal.loop-rank-preserved
loop-rank-preserved c =
    let lists = c.args.lists.now in
    let i = c.loop-rank.rank in
    let at : get_or (map (λ v. v.items) lists) i [] ≡ c.deref.result.now =
    list_at (λ v. v.items) lists i c.index-lists-rank.result c.loop-rank-test.true c.index-lists-rank.is ∙ sym c.deref.ensures.value in
    record {
      lists = maps_push (λ m. m.value) (λ v. v.items) c.loop-rank.maps.items c.push.new.self.items c.in-Ok.map lists i c.index-lists-rank.result
          c.loop-rank-test.true c.index-lists-rank.is c.in_ok-push-in-Ok.ensures.items c.loop-rank.invariant.lists (c.in-Ok.ensures.kept ∙ c.deref.ensures.value);
      sound = below_more (λ p. IsSound c.args.size (get_or (map (λ v. v.items) lists) p [])) i c.loop-rank.invariant.sound (subst (IsSound c.args.size) (sym at) c.in-Ok.ensures.sound);
    }

pub returns-in-Err-clause-refused : goal.returns-in-Err-clause-refused
returns-in-Err-clause-refused c =
    let lists = c.args.lists.now in
    let i = c.loop-rank.rank in
    let at : c.deref.result.now ≡ get_or (map (λ v. v.items) lists) i [] =
    c.deref.ensures.value ∙ sym (list_at (λ v. v.items) lists i c.index-lists-rank.result c.loop-rank-test.true c.index-lists-rank.is) in
    let known : i < length (map (λ v. v.items) lists) = omega (arith, length-map lists (λ v. v.items), c.loop-rank-test.true) in
    fault_of_rank c.args.size (map (λ v. v.items) lists) i c.in-Err.fault
    (record { known = known; earlier = c.loop-rank.invariant.sound })
    (subst (λ xs. IsRankFaultOf i c.args.size xs c.in-Err.fault) at c.in-Err.ensures.refused)

pub invariant_of-result : goal.invariant_of-result
invariant_of-result c =
    let lists : List (List ℕ) = map (λ v. v.items) c.args.lists.now in
    let all : map (λ m. m.value) c.loop-rank.maps.items ≡ lists =
    c.loop-rank.invariant.lists ∙ ap (map (λ v. v.items)) (take_all c.loop-rank.rank c.args.lists.now c.loop-rank-test.false) in
    let many : length lists ≡ length c.args.lists.now = length-map c.args.lists.now (λ v. v.items) in
    let sound : AreSound c.args.size lists = λ p h. let past = c.loop-rank-test.false in c.loop-rank.invariant.sound p (omega arith) in
    subst (λ ls. IsChecked (record { size = c.args.size; lists = ls }) (nat_eq c.len-distinct.result c.in_ok-all.count) (nat_eq c.len-distinct.result c.args.size)) (sym all)
    (subst (λ n. IsChecked (record { size = c.args.size; lists = lists }) (nat_eq n c.in_ok-all.count) (nat_eq n c.args.size)) (sym c.len-distinct.ensures.len)
    (checked_by_count c.args.size lists c.in_ok-all.all.keys c.in_ok-all.count (omega arith) (omega arith) sound
    c.in_ok-all.ensures.unique c.in_ok-all.ensures.members c.in_ok-all.ensures.counted))

pub returns-clause-sound : goal.returns-clause-sound
returns-clause-sound c =
    let lists : List (List ℕ) = map (λ v. v.items) c.args.lists.now in
    let all : map (λ m. m.value) c.loop-rank.maps.items ≡ lists =
    c.loop-rank.invariant.lists ∙ ap (map (λ v. v.items)) (take_all c.loop-rank.rank c.args.lists.now c.loop-rank-test.false) in
    let many : length lists ≡ length c.args.lists.now = length-map c.args.lists.now (λ v. v.items) in
    let sound : AreSound c.args.size lists = λ p h. let past = c.loop-rank-test.false in c.loop-rank.invariant.sound p (omega arith) in
    subst (λ ls. IsLayout (record { size = c.args.size; lists = ls })) (sym all) (is_layout-sound c.args.size lists sound)
