use Rattle.std.proofs.Common.{◌≡◌, length, get_or, sum, take, ◌+◌, sym, ap, ◌∙◌}
use Rattle.std.proofs.lemmas.List.FromFn.{length-range_with_len}
use Rattle.map_core.proofs.Blocks.{run_at}
use Rattle.map_core.proofs.Contiguous.{length-rank_list-uniform}
use Rattle.map_core.proofs.Cyclic.{length-rank_list-cyclic}
use Rattle.model_defs.specs.declared.job.MapForm.TheVariants.{Uniform, Blocks, Cyclic}
use Rattle.model_defs.specs.Maps.{map_at}
use Rattle.job_fit.proofs.Maps.{list-at, map-read}
use Rattle.job_fit.proofs.counts.index_count.Goals as goal

pub returns-in-Uniform : goal.returns-in-Uniform
returns-in-Uniform c =
    let read : map_at c.args.job.now c.args.m ≡ c.index-as_slice-m.result = map-read c.args.job.now c.args.m c.as_slice.result.now c.index-as_slice-m.result c.requires.known c.as_slice.ensures.items c.index-as_slice-m.is in
    record {
      count = c.even_count.ensures
          ∙ sym (ap length (list-at c.args.job.now c.args.m c.index-as_slice-m.result read Uniform c.in-Uniform.is c.args.me) ∙ length-rank_list-uniform c.args.job.now.ranks c.index-as_slice-m.result.size c.args.me c.requires.rank);
    }

pub returns-in-Blocks : goal.returns-in-Blocks
returns-in-Blocks c =
    let read : map_at c.args.job.now c.args.m ≡ c.index-as_slice-m.result = map-read c.args.job.now c.args.m c.as_slice.result.now c.index-as_slice-m.result c.requires.known c.as_slice.ensures.items c.index-as_slice-m.is in
    let counts = c.in-Blocks.counts in
    record {
      count = c.from.ensures ∙ ap (λ xs. get_or xs c.args.me 0) c.as_slice-in-Blocks.ensures.items
          ∙ sym (ap length (list-at c.args.job.now c.args.m c.index-as_slice-m.result read (Blocks counts) c.in-Blocks.is c.args.me ∙ run_at 0 counts c.args.me)
          ∙ length-range_with_len (0 + sum (take c.args.me counts)) (get_or counts c.args.me 0));
    }

pub returns-in-Cyclic : goal.returns-in-Cyclic
returns-in-Cyclic c =
    let read : map_at c.args.job.now c.args.m ≡ c.index-as_slice-m.result = map-read c.args.job.now c.args.m c.as_slice.result.now c.index-as_slice-m.result c.requires.known c.as_slice.ensures.items c.index-as_slice-m.is in
    record {
      count = c.even_count-in-Cyclic.ensures
          ∙ sym (ap length (list-at c.args.job.now c.args.m c.index-as_slice-m.result read Cyclic c.in-Cyclic.is c.args.me) ∙ length-rank_list-cyclic c.args.job.now.ranks c.index-as_slice-m.result.size c.args.me c.requires.rank);
    }
