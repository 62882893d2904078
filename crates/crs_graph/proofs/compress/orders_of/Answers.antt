use Rattle.std.proofs.Common.{◌-◌, [], map, get_or, subst, sym, ap, ◌∙◌, arith}
use Rattle.std.proofs.lemmas.List.{get_or-map, take_all}
use Rattle.map_core.specs.Classes.{places}
use Rattle.map_core.specs.Layouts.{stands}
use Rattle.crs_graph.specs.Ascending.{ascending, IsAscending}
use Rattle.crs_graph.specs.Packed.{joined, slices}
use Rattle.crs_graph.proofs.AllColumns.{ascending-ascends, stands-ascending}
use Rattle.crs_graph.proofs.Packed.{length-slices}
use Rattle.crs_graph.proofs.compress.orders_of.Goals as goal

pub push_places-requires-clause-ascend : goal.push_places-requires-clause-ascend
push_places-requires-clause-ascend c =
    let rs = slices c.args.offsets.now c.args.locals.now in
    let many = length-slices c.args.offsets.now c.args.locals.now c.requires.packed in
    let low = c.loop-row-test.true in
    let l = c.loop-row.row - 1 in
    let is = c.row_of.ensures.row ∙ ap (λ qs. get_or qs l []) c.requires.sorted ∙ get_or-map ascending rs l [] [] (omega arith) in
    subst IsAscending (sym is) (ascending-ascends (get_or rs l []))

pub push_places-requires-clause-known : goal.push_places-requires-clause-known
push_places-requires-clause-known c =
    let rs = slices c.args.offsets.now c.args.locals.now in
    let many = length-slices c.args.offsets.now c.args.locals.now c.requires.packed in
    let low = c.loop-row-test.true in
    let l = c.loop-row.row - 1 in
    let is = c.row_of.ensures.row ∙ ap (λ qs. get_or qs l []) c.requires.sorted ∙ get_or-map ascending rs l [] [] (omega arith) in
    λ k on. ap (stands k) is ∙ stands-ascending (get_or rs l []) k ∙ ap (stands k) (sym c.row_of-in-loop-row.ensures.row) ∙ on

pub returns : goal.returns
returns c =
    let rs = slices c.args.offsets.now c.args.locals.now in
    let many = length-slices c.args.offsets.now c.args.locals.now c.requires.packed in
    record { orders = c.loop-row.invariant ∙ ap (λ xs. joined (map (λ row. places (ascending row) row) xs)) (take_all (c.loop-row.row - 1) rs (let past = c.loop-row-test.false in omega arith)) }
