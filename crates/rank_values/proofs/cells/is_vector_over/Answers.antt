use Rattle.std.proofs.Common.{◌≡◌, ◌<◌, length, subst, sym, ap, ◌∙◌, arith}
use Rattle.tables.specs.Indices.{AreDistinct}
use Rattle.rank_values.proofs.Overs.{row-some, rows-none}
use Rattle.rank_values.proofs.cells.is_vector_over.Goals as goal

pub returns-then-is_row_over-clause-some : goal.returns-then-is_row_over-clause-some
returns-then-is_row_over-clause-some g c =
    let v = c.args.vector.now in
    let same : c.deref.result.now ≡ v.map = c.deref.ensures ∙ c.map.ensures.map in
    let distinct : AreDistinct v.map = subst AreDistinct same c.len-lid-end.ensures.distinct in
    let many : length c.deref.result.now ≡ length v.map = ap length same in
    let low : c.loop-lid.lid < length v.map = (let test = c.loop-lid-test.true in let len = c.len-lid-end.ensures.len in omega arith) in
    λ yes. row-some g.S.Scalar.conversions v c.loop-lid.lid distinct low (sym c.is_row_over.ensures.over ∙ c.if-is_row_over.true)

pub returns-clause-none : goal.returns-clause-none
returns-clause-none g c =
    let v = c.args.vector.now in
    let same : c.deref.result.now ≡ v.map = c.deref.ensures ∙ c.map.ensures.map in
    let many : length c.deref.result.now ≡ length v.map = ap length same in
    λ no_one. rows-none g.S.Scalar.conversions v c.loop-lid.lid (let past = c.loop-lid-test.false in let len = c.len-lid-end.ensures.len in omega arith) c.loop-lid.invariant
