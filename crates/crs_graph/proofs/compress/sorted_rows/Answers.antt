use Rattle.std.proofs.Common.{◌-◌, map, ap, ◌∙◌, arith}
use Rattle.std.proofs.lemmas.List.{take_all}
use Rattle.crs_graph.specs.Ascending.{ascending}
use Rattle.crs_graph.specs.Packed.{joined, slices}
use Rattle.crs_graph.proofs.Packed.{length-slices}
use Rattle.crs_graph.proofs.compress.sorted_rows.Goals as goal

pub returns : goal.returns
returns c =
    let rs = slices c.args.offsets.now c.args.locals.now in
    let many = length-slices c.args.offsets.now c.args.locals.now c.requires.packed in
    record { rows = c.loop-row.invariant ∙ ap (λ xs. joined (map ascending xs)) (take_all (c.loop-row.row - 1) rs (let past = c.loop-row-test.false in omega arith)) }
