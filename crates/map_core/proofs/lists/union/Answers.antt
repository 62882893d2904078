use Rattle.std.proofs.Common.{◌<◌, ◌||◌, ◌^◌, length, map, take, subst, sym, ap, ◌∙◌, arith, length-append}
use Rattle.std.specs.List.{concat}
use Rattle.map_core.specs.Layouts.{stands}
use Rattle.map_core.proofs.Members.{stands-append}
use Rattle.map_core.proofs.Unions.{concat_more}
use Rattle.map_core.proofs.lists.union.Goals as goal

pub loop-list-preserved : goal.loop-list-preserved
loop-list-preserved c =
    let lists = c.args.lists.now in
    let i = c.loop-list.list-index in
    let before = concat (map (λ v. v.items) (take i lists)) in
    let more = concat_more (λ v. v.items) lists i c.list-item.result c.loop-list-test.true c.list-item.is in
    record {
      members = λ g.
          c.in_ok-add_list.ensures.members g
          ∙ ap (λ b. b || stands g c.deref.result.now) (c.loop-list.invariant.members g)
          ∙ ap (λ ys. stands g before || stands g ys) c.deref.ensures.value
          ∙ sym (stands-append g before c.list-item.result.items)
          ∙ ap (stands g) (sym more);
      unique = c.in_ok-add_list.ensures.unique;
      counted =
          let all = ap length more ∙ length-append before c.list-item.result.items in
          let one = ap length c.deref.ensures.value in
          let len = c.deref.ensures.len in
          let kept = c.loop-list.invariant.counted in
          omega (arith, c.len.ensures);
      small =
          let few : length c.list-item.result.items < 2 ^ 32 =
          subst (λ v. length v.items < 2 ^ 32) (sym c.list-item.is) (c.requires.few i c.list-item.result c.loop-list-test.true) in
          let one = ap length c.deref.ensures.value in
          let len = c.deref.ensures.len in
          let kept = c.loop-list.invariant.small in
          omega (arith, c.len.ensures);
    }
