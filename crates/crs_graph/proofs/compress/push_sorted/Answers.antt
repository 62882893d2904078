use Rattle.std.proofs.Common.{subst, ap, ◌∙◌, ◌++◌}
use Rattle.std.specs.List.Sorted.{IsPermutation}
use Rattle.crs_graph.proofs.LocalColumns.{sorted-ascending}
use Rattle.crs_graph.proofs.compress.push_sorted.Goals as goal

pub returns : goal.returns
returns c =
    let row = c.args.row.now in
    let filled = c.in_ok-extend_from_slice.ensures.items ∙ ap (λ xs. xs ++ row) c.clear.ensures.items in
    let moved = subst (λ xs. IsPermutation xs c.sort_unstable.new.self.items) filled c.sort_unstable.ensures.permutation in
    record {
      pushed = c.in_ok-extend_from_slice-2.ensures.items
          ∙ ap (λ xs. c.args.columns.now.items ++ xs) (c.deref.ensures.value ∙ sorted-ascending row c.sort_unstable.new.self.items c.requires.distinct moved c.sort_unstable.ensures.sorted);
    }
