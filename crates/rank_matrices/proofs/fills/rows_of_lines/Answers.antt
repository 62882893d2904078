use Rattle.std.proofs.Common.{◌≡◌, map, ap, ◌∙◌}
use Rattle.std.proofs.lemmas.List.{take_all}
use Rattle.crs_graph.specs.Ascending.{ascending}
use Rattle.crs_graph.proofs.AllColumns.{sorted_once}
use Rattle.rank_matrices.proofs.fills.rows_of_lines.Goals as goal

pub returns : goal.returns
returns c =
    let all : c.loop-line.rows.items ≡ map (λ l. l.row) c.args.lines.now =
    c.loop-line.invariant ∙ ap (map (λ l. l.row)) (take_all c.loop-line.line-index c.args.lines.now c.loop-line-test.false) in
    record {
      rows = sorted_once c.loop-line.rows.items c.sort_unstable.new.self.items c.dedup.new.self.items c.sort_unstable.ensures.permutation c.sort_unstable.ensures.sorted c.dedup.ensures.filtered
          ∙ ap ascending all;
    }
