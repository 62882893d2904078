use Rattle.std.proofs.Common.{◌≡◌, ◌<◌, length, sym, ap, ◌∙◌, subst, arith}
use Rattle.model_defs.specs.declared.job.MapForm.TheVariants.{Blocks, Lists}
use Rattle.model_defs.specs.Maps.{map_at}
use Rattle.map_core.proofs.Blocks.{length-runs}
use Rattle.map_core.proofs.Cyclic.{length-cyclic}
use Rattle.map_core.proofs.Contiguous.{length-uniform}
use Rattle.rank_share.proofs.Maps.{map-read, form-at, small-at, few}
use Rattle.rank_share.proofs.own_maps.own_map.Goals as goal

pub list-requires : goal.list-requires
list-requires c = record {
  known = subst (λ n. c.args.me < n) (sym (ap (λ l. length l.lists) c.in_ok-uniform-in-Uniform.ensures.uniform ∙ length-uniform c.args.job.now.ranks c.index-as_slice-m.result.size)) c.requires.rank;
}

pub list-requires-in-Blocks : goal.list-requires-in-Blocks
list-requires-in-Blocks c =
    let read : map_at c.args.job.now c.args.m ≡ c.index-as_slice-m.result = map-read c.args.job.now c.args.m c.as_slice.result.now c.index-as_slice-m.result c.requires.known c.as_slice.ensures.items c.index-as_slice-m.is in
    let form = form-at c.args.job.now c.requires.valid c.args.m c.requires.known c.index-as_slice-m.result read (Blocks c.in-Blocks.counts) c.in-Blocks.is in
    record {
      known = subst (λ n. c.args.me < n)
          (sym (ap (λ l. length l.lists) c.in_ok-blocks-in-Blocks.ensures.blocks ∙ length-runs 0 c.as_slice-in-Blocks.result.now ∙ ap length c.as_slice-in-Blocks.ensures.items ∙ form.0))
          c.requires.rank;
    }

pub list-requires-in-Cyclic : goal.list-requires-in-Cyclic
list-requires-in-Cyclic c = record {
  known = subst (λ n. c.args.me < n) (sym (ap (λ l. length l.lists) c.in_ok-cyclic-in-Cyclic.ensures.cyclic ∙ length-cyclic c.args.job.now.ranks c.index-as_slice-m.result.size)) c.requires.rank;
}

pub listed-requires-clause-few : goal.listed-requires-clause-few
listed-requires-clause-few c =
    let read : map_at c.args.job.now c.args.m ≡ c.index-as_slice-m.result = map-read c.args.job.now c.args.m c.as_slice.result.now c.index-as_slice-m.result c.requires.known c.as_slice.ensures.items c.index-as_slice-m.is in
    let small = small-at c.args.job.now c.requires.valid c.args.m c.requires.known c.index-as_slice-m.result read (Lists c.in-Lists.lists) c.in-Lists.is in
    let form = form-at c.args.job.now c.requires.valid c.args.m c.requires.known c.index-as_slice-m.result read (Lists c.in-Lists.lists) c.in-Lists.is in
    few c.in-Lists.lists c.as_slice-in-Lists.result.now c.index-as_slice-me.result c.as_slice-in-Lists-2.result.now c.args.me
    c.as_slice-in-Lists.ensures.items c.index-as_slice-me.is c.as_slice-in-Lists-2.ensures.items (let rank = c.requires.rank in omega arith) small.1
