use Rattle.std.proofs.Common.{◌≡◌, ◌<◌, Some, [], length, map, get_or, true, false, sym, ap, subst, ◌∙◌, arith, rules}
use Rattle.std.proofs.lemmas.Option.{slice_get-get_or}
use Rattle.map_core.specs.Layouts.{local_index, stands}
use Rattle.model_defs.specs.Operations.{combination}
use Rattle.crs_graph.proofs.Ascending.{stands-at}
use Rattle.crs_matrix.specs.ByRow.{by_row}
use Rattle.crs_matrix.specs.Rows.{row_table}
use Rattle.crs_matrix.proofs.Clauses.{entry-of}
use Rattle.sparse_product.proofs.RowSums.{entry-known, sum-more, sum-none, whole-sum, IsAdded}
use Rattle.sparse_product.proofs.add.local_add.Goals as goal

pub loop-lid-init : goal.loop-lid-init
loop-lid-init g c =
    let made : c.in_ok-clone.field-0.value ≡ c.args.a.now.graph.rows = search rules in
    sum-none g.S.Scalar.semiring g.met.S.Scalar.laws c.args.alpha c.args.beta (by_row c.args.a.now) c.args.b.now c.in_ok-sum.sum
    (c.in_ok-sum.ensures.empty ∙ (λ t. record { rows = made t; cells = map (λ _. []) (made t) }))

pub gid-requires : goal.gid-requires
gid-requires g c =
    let low : c.loop-lid.lid < length c.args.a.now.graph.rows = let a = c.loop-lid-test.true in let b = c.len-lid-end.ensures.len in let d = ap length (c.deref.ensures ∙ c.row_map-rows.ensures.rows) in omega arith in
    record { known = entry-known (by_row c.args.a.now) c.loop-lid.lid c.row_map-rows.ensures.is_matrix low }

pub unreachable-requires : goal.unreachable-requires
unreachable-requires g c =
    let low : c.loop-lid.lid < length c.args.a.now.graph.rows = let a = c.loop-lid-test.true in let b = c.len-lid-end.ensures.len in let d = ap length (c.deref.ensures ∙ c.row_map-rows.ensures.rows) in omega arith in
    let rows = c.args.a.now.graph.rows in
    let gid : c.gid.result ≡ get_or rows c.loop-lid.lid 0 = c.gid.ensures.gid ∙ ap (λ e. e.gid) (entry-of rows (by_row c.args.a.now).cells c.loop-lid.lid c.row_map-rows.ensures.is_matrix.each low) in
    let others = c.deref-in-loop-lid.ensures ∙ c.row_map-others.ensures.rows in
    let on = stands-at rows c.gid.result c.loop-lid.lid low (sym gid) in
    let bad : false ≡ true = c.in_default.ensures.found ∙ ap (stands c.gid.result) others ∙ sym (c.requires.same_rows c.gid.result) ∙ on in
    cc

pub add_entry-requires-clause-known : goal.add_entry-requires-clause-known
add_entry-requires-clause-known g c =
    let low : c.loop-lid.lid < length c.args.a.now.graph.rows = let a = c.loop-lid-test.true in let b = c.len-lid-end.ensures.len in let d = ap length (c.deref.ensures ∙ c.row_map-rows.ensures.rows) in omega arith in
    entry-known (by_row c.args.a.now) c.loop-lid.lid c.row_map-rows.ensures.is_matrix low

pub add_entry-requires-in-loop-lid-clause-known : goal.add_entry-requires-in-loop-lid-clause-known
add_entry-requires-in-loop-lid-clause-known g c =
    let others = c.deref-in-loop-lid.ensures ∙ c.row_map-others.ensures.rows in
    let within = c.in-Some.ensures.within in
    let same = ap length others in
    entry-known c.args.b.now c.in-Some.from c.row_map-others.ensures.is_matrix (omega arith)

pub loop-lid-preserved : goal.loop-lid-preserved
loop-lid-preserved g c =
    let low : c.loop-lid.lid < length c.args.a.now.graph.rows = let a = c.loop-lid-test.true in let b = c.len-lid-end.ensures.len in let d = ap length (c.deref.ensures ∙ c.row_map-rows.ensures.rows) in omega arith in
    let rows = c.args.a.now.graph.rows in
    let gid : c.gid.result ≡ get_or rows c.loop-lid.lid 0 = c.gid.ensures.gid ∙ ap (λ e. e.gid) (entry-of rows (by_row c.args.a.now).cells c.loop-lid.lid c.row_map-rows.ensures.is_matrix.each low) in
    let others = c.deref-in-loop-lid.ensures ∙ c.row_map-others.ensures.rows in
    sum-more g.S.Scalar.semiring g.met.S.Scalar.laws c.args.alpha c.args.beta c.loop-lid.lid c.gid.result c.in-Some.from (by_row c.args.a.now) c.args.b.now c.loop-lid.sum c.add_entry.new.target c.add_entry-in-loop-lid.new.target
    c.loop-lid.invariant c.row_map-rows.ensures.is_matrix c.row_map-others.ensures.is_matrix
    (slice_get-get_or rows c.loop-lid.lid 0 low ∙ ap Some (sym gid))
    (ap (λ xs. local_index xs c.gid.result) (sym others) ∙ sym c.in-Some.ensures.place)
    c.in_ok-add_entry.ensures.rows c.in_ok-add_entry-2.ensures.rows c.in_ok-add_entry.ensures.row c.in_ok-add_entry-2.ensures.row

pub returns-clause-sum : goal.returns-clause-sum
returns-clause-sum g c =
    let R = g.S.Scalar.semiring in
    let many = ap length (c.deref.ensures ∙ c.row_map-rows.ensures.rows) in
    let past = c.loop-lid-test.false in
    let low = c.loop-lid.auto.lid-end in
    let end = c.len-lid-end.ensures.len in
    let done : c.loop-lid.lid ≡ length c.args.a.now.graph.rows = omega arith in
    whole-sum R g.met.S.Scalar.laws c.args.alpha c.args.beta (by_row c.args.a.now) c.args.b.now c.loop-lid.sum c.requires.same_rows
    (subst (λ n. IsAdded R c.args.alpha c.args.beta n (by_row c.args.a.now) c.args.b.now c.loop-lid.sum) done c.loop-lid.invariant)
    ∙ ap (λ t. combination R c.args.alpha t c.args.beta (row_table c.args.b.now)) c.row_map-rows.ensures.table
