use Rattle.std.proofs.Common.{◌≡◌, ◌<◌, ◌&&◌, Bool, false, ltb, List, Some, None, to_z, of_z, sym, ap, ◌∙◌, refl, arith, rules}
use Rattle.std.specs.Int.{w128}
use Rattle.std.proofs.lemmas.Bool.{le-ltb}
use Rattle.tables.specs.Indices.{stands}
use Rattle.tables.specs.Tables.{with_place}
use Rattle.map_core.specs.Layouts.{local_index}
use Rattle.model_defs.specs.FileMatrix.{number_of}
use Rattle.multivector.specs.Vectors.{VectorState, vector_table}
use Rattle.rank_values.proofs.Globals.{none_stands}
use Rattle.rank_values.proofs.LineTables.{line-inside, line-outside}
use Rattle.rank_values.proofs.lines.add_line.Goals as goal

off : (b : Bool) → (b && false) ≡ false
off Bool.true = refl
off false = refl

pub returns-then-col-columns-clause-cells : goal.returns-then-col-columns-clause-cells
returns-then-col-columns-clause-cells g c =
    let v = c.args.vector.now in
    let l = c.args.line.now in
    let none : ltb l.col v.columns ≡ false = le-ltb l.col v.columns (let past = c.if-col-columns.true in let many = c.columns.ensures.columns in omega arith) in
    λ lines is. is ∙ sym (line-outside g.S.Scalar.semiring g.S.Scalar.conversions g.met.S.Scalar.laws v.map v.columns lines l (ap (λ b. stands l.row v.map && b) none ∙ off (stands l.row v.map)))

pub returns-in_default-clause-cells : goal.returns-in_default-clause-cells
returns-in_default-clause-cells g c =
    let v = c.args.vector.now in
    let l = c.args.line.now in
    let same : c.deref.result.now ≡ v.map = c.deref.ensures ∙ c.map.ensures.map in
    let none : stands l.row v.map ≡ false = none_stands v.map l.row (ap (λ m. local_index m l.row) (sym same) ∙ sym c.local_of.ensures.place ∙ c.in_default.is) in
    λ lines is. is ∙ sym (line-outside g.S.Scalar.semiring g.S.Scalar.conversions g.met.S.Scalar.laws v.map v.columns lines l (ap (λ b. b && ltb l.col v.columns) none))

pub returns-clause-cells : goal.returns-clause-cells
returns-clause-cells g c =
    let R = g.S.Scalar.semiring in
    let F = g.S.Scalar.conversions in
    let v = c.args.vector.now in
    let l = c.args.line.now in
    let whole : to_z w128 (of_z w128 l.value) ≡ l.value = search rules in
    let same : c.deref.result.now ≡ v.map = c.deref.ensures ∙ c.map.ensures.map in
    let there : local_index v.map l.row ≡ c.local_of.result = ap (λ m. local_index m l.row) (sym same) ∙ sym c.local_of.ensures.place in
    λ lines is. line-inside R F v c.set.new.self lines l c.in-Some.lid c.cell.result g.met.S.Scalar.laws
    (there ∙ c.in-Some.is)
    (let low = c.if-col-columns.false in let many = c.columns.ensures.columns in omega arith)
    (ap (λ w. w.map) c.set.ensures.values)
    c.cell.ensures.cell
    (c.set.ensures.cell ∙ ap (λ x. with_place (vector_table v) c.in-Some.lid l.col (Some x)) (c.add-sum.ensures ∙ ap (R.plus c.cell.result) c.number_of.ensures.number ∙ ap (λ x. R.plus c.cell.result (number_of R F x)) whole))
    is
