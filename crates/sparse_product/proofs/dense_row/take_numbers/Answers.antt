use Rattle.std.proofs.Common.{◌≡◌, suc, ◌+◌, ◌<◌, ◌∷◌, None, length, get_or, drop, refl, ap, subst, ◌∙◌, arith, rules}
use Rattle.std.proofs.Math.Seq.{drop-cons}
use Rattle.std.proofs.lemmas.Option.{get_or_from_slice_get, slice_get_read}
use Rattle.crs_graph.proofs.Ascending.{stands-at}
use Rattle.crs_matrix.specs.Rows.{local_table}
use Rattle.sparse_product.proofs.DenseRows.{taking-empty, taking-row, taking-start, taking-step, drop-past, IsTaking}
use Rattle.sparse_product.proofs.dense_row.take_numbers.Goals as goal

pub loop-place-init : goal.loop-place-init
loop-place-init g c = record {
  rows = refl;
  taking = taking-start g.S.Scalar.semiring g.met.S.Scalar.laws c.args.columns.now c.args.lid c.args.numbers.now.items (local_table c.args.target.now) c.args.reached.now c.requires.reached;
}

pub index-requires : goal.index-requires
index-requires g c =
    let at = get_or c.args.reached.now c.loop-place.place-index 0 in
    let low : at < length c.args.numbers.now.items = c.requires.reached.within at (stands-at c.args.reached.now at c.loop-place.place-index c.loop-place-test.true refl) in
    omega (arith, c.loop-place.invariant.taking.size, c.loop-place.numbers.ok.0)

pub bounds-columns-at : goal.bounds-columns-at
bounds-columns-at g c =
    let at = get_or c.args.reached.now c.loop-place.place-index 0 in
    let low : at < length c.args.numbers.now.items = c.requires.reached.within at (stands-at c.args.reached.now at c.loop-place.place-index c.loop-place-test.true refl) in
    omega (arith, c.requires.each)

pub offset_bounds-columns-at : goal.offset_bounds-columns-at
offset_bounds-columns-at g c =
    let at = get_or c.args.reached.now c.loop-place.place-index 0 in
    let low : at < length c.args.numbers.now.items = c.requires.reached.within at (stands-at c.args.reached.now at c.loop-place.place-index c.loop-place-test.true refl) in
    let many : at < length c.args.columns.now = omega (arith, c.requires.each) in
    search rules

pub index_mut-requires : goal.index_mut-requires
index_mut-requires g c =
    let at = get_or c.args.reached.now c.loop-place.place-index 0 in
    let low : at < length c.args.numbers.now.items = c.requires.reached.within at (stands-at c.args.reached.now at c.loop-place.place-index c.loop-place-test.true refl) in
    omega (arith, c.loop-place.invariant.taking.size, c.loop-place.numbers.ok.0)

pub loop-place-preserved : goal.loop-place-preserved
loop-place-preserved g c =
    let R = g.S.Scalar.semiring in
    let first = c.args.numbers.now.items in
    let now = c.loop-place.numbers.items in
    let index = c.loop-place.place-index in
    let at = get_or c.args.reached.now index 0 in
    let rest = drop (index + 1) c.args.reached.now in
    let low : at < length first = c.requires.reached.within at (stands-at c.args.reached.now at index c.loop-place-test.true refl) in
    let low_now : at < length now = omega (arith, c.loop-place.invariant.taking.size) in
    let next : suc index ≡ index + 1 = omega arith in
    let split = drop-cons c.args.reached.now index 0 c.loop-place-test.true ∙ ap (λ k. at ∷ drop k c.args.reached.now) next in
    let here = subst (λ xs. IsTaking R xs c.args.columns.now c.args.lid first now (local_table c.args.target.now) (local_table c.loop-place.target)) split c.loop-place.invariant.taking in
    let is = get_or_from_slice_get now at c.index.result.now None (slice_get_read now (length now) at c.index.result.now refl low_now c.index.ensures) ∙ c.in-Some.is in
    record {
      rows = c.in_ok-combine.ensures.shape ∙ c.loop-place.invariant.rows;
      taking = taking-step R g.met.S.Scalar.laws c.args.columns.now c.args.lid first (local_table c.args.target.now) at rest now (local_table c.loop-place.target) (local_table c.combine.new.self) c.in-Some.number
          c.requires.ascend c.requires.each low here is c.in_ok-combine.ensures.cell;
    }

pub returns-clause-row : goal.returns-clause-row
returns-clause-row g c =
    let past = c.loop-place-test.false in
    let done = drop-past c.loop-place.place-index c.args.reached.now past in
    taking-row g.S.Scalar.semiring g.met.S.Scalar.laws c.args.columns.now c.args.lid c.args.numbers.now.items (local_table c.args.target.now) c.loop-place.numbers.items (local_table c.loop-place.target)
    (subst (λ xs. IsTaking g.S.Scalar.semiring xs c.args.columns.now c.args.lid c.args.numbers.now.items c.loop-place.numbers.items (local_table c.args.target.now) (local_table c.loop-place.target)) done c.loop-place.invariant.taking)

pub returns-clause-empty : goal.returns-clause-empty
returns-clause-empty g c =
    let past = c.loop-place-test.false in
    let done = drop-past c.loop-place.place-index c.args.reached.now past in
    taking-empty g.S.Scalar.semiring g.met.S.Scalar.laws c.args.columns.now c.args.lid c.args.numbers.now.items (local_table c.args.target.now) c.loop-place.numbers.items (local_table c.loop-place.target)
    (subst (λ xs. IsTaking g.S.Scalar.semiring xs c.args.columns.now c.args.lid c.args.numbers.now.items c.loop-place.numbers.items (local_table c.args.target.now) (local_table c.loop-place.target)) done c.loop-place.invariant.taking)
