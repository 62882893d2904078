use Rattle.std.proofs.Common.{◌≡◌, ◌<◌, ◌^◌, ◌*◌, List, ℕ, Option, Some, length, refl, sym, ap, ◌∙◌, subst, arith, map}
use Rattle.std.specs.Prelude.{IsTrue}
use Rattle.std.specs.List.{flat_map}
use Rattle.std.proofs.lemmas.List.{length-map}
use Rattle.tables.specs.Indices.{AreDistinct}
use Rattle.map_core.specs.Classes.{index_at, indices_at}
use Rattle.map_core.specs.Plans.{remote_list}
use Rattle.letter_codec.specs.declared.kind.Kind.TheVariants.{Nums}
use Rattle.letter_codec.specs.Letters.{number_bytes}
use Rattle.letter_codec.specs.Parts.{words_of}
use Rattle.distributor.specs.declared.fault.AbsorbFault.{AbsorbFault}
use Rattle.distributor.specs.Entries.{numbered}
use Rattle.distributor.specs.Arrivals.{IsFaultOf, IsNotThePlan, IsOfKind, numbers_in}
use Rattle.distributor.proofs.Numbered.{length-numbered}
use Rattle.distributor.proofs.Absorbed.{of-numbers}
use Rattle.vector_moves.specs.Rows.{row_numbers}
use Rattle.vector_moves.proofs.Came.{same-by_index}
use Rattle.vector_moves.proofs.Absorbing.{is-letter, rows-letter, read-kind, read-letter, entries-taken, absorbed-rows, absorbed-letter, same-rows}
use Rattle.vector_moves.proofs.moving.absorb.Goals as goal

pub returns-in_default-clause-always : goal.returns-in_default-clause-always
returns-in_default-clause-always g c = λ x froms is columns moves e fit.
    let F = g.S.Scalar.conversions in
    let small : length c.args.bytes.now < 2 ^ 64 = omega arith in
    absurd (c.in_default.ensures.read Nums (indices_at x.map froms) (number_bytes F (flat_map (row_numbers x) froms))
    (is-letter F g.met.S.Scalar.conversion_laws x froms is moves.sources fit c.args.bytes.now small e) e)

pub returns-then-not-has_rows-clause-always : goal.returns-then-not-has_rows-clause-always
returns-then-not-has_rows-clause-always g c = λ x froms is columns moves e fit.
    let F = g.S.Scalar.conversions in
    let small : length c.args.bytes.now < 2 ^ 64 = omega arith in
    let rows = rows-letter F g.met.S.Scalar.conversion_laws x froms is moves.sources fit c.args.bytes.now small e in
    let read = c.in-Some.ensures.read Nums (indices_at x.map froms) rows.numbers rows.letter rows.whole in
    let many : x.columns ≡ c.columns.result = columns ∙ sym c.columns.ensures.columns in
    let on : IsTrue c.has_rows.result = c.has_rows.ensures.rows.1
    (read-kind c.in-Some.letter (indices_at x.map froms) rows.numbers c.columns.result read (rows.each ∙ ap (λ n. 32 * (length (indices_at x.map froms) * n)) many)) in
    absurd (cc)

pub absorb-requires-clause-taken : goal.absorb-requires-clause-taken
absorb-requires-clause-taken g c =
    let P : ℕ → Type 0 = λ n. IsOfKind (Some n) c.in-Some.letter in
    let kind = subst P c.columns.ensures.columns (c.has_rows.ensures.rows.0 c.if-not-has_rows.false) in
    entries-taken g.S.Scalar.conversions c.in-Some.letter c.args.transfer.now.width c.args.y.now (remote_list c.args.transfer.now.plan c.args.from) c.requires.columns kind c.requires.targets

pub returns-in-Ok-clause-rows : goal.returns-in-Ok-clause-rows
returns-in-Ok-clause-rows g c =
    let P : ℕ → Type 0 = λ n. IsOfKind (Some n) c.in-Some.letter in
    let kind = subst P c.columns.ensures.columns (c.has_rows.ensures.rows.0 c.if-not-has_rows.false) in
    let D : List ℕ → Type 0 = AreDistinct in
    let small : length c.args.bytes.now < 2 ^ 64 = omega arith in
    absorbed-rows g.S.Scalar.conversions g.met.S.Scalar.conversion_laws g.S.Scalar.semiring c.args.mode c.in-Some.letter c.args.bytes.now c.args.transfer.now.width c.args.y.now
    c.requires.columns kind c.in-Some.ensures.some.0 c.in-Some.ensures.some.1 small c.absorb.new.target (remote_list c.args.transfer.now.plan c.args.from)
    (subst D (c.deref.ensures ∙ c.map.ensures.map) c.len.ensures.distinct) c.in-Ok.ensures.shape.0 c.in-Ok.ensures.cells

pub returns-in-Ok-clause-letter : goal.returns-in-Ok-clause-letter
returns-in-Ok-clause-letter g c =
    let P : ℕ → Type 0 = λ n. IsOfKind (Some n) c.in-Some.letter in
    let kind = subst P c.columns.ensures.columns (c.has_rows.ensures.rows.0 c.if-not-has_rows.false) in
    let D : List ℕ → Type 0 = AreDistinct in
    let small : length c.args.bytes.now < 2 ^ 64 = omega arith in
    absorbed-letter g.S.Scalar.conversions g.met.S.Scalar.conversion_laws g.S.Scalar.semiring c.args.mode c.in-Some.letter c.args.bytes.now c.args.transfer.now.width c.args.y.now
    c.requires.columns kind c.in-Some.ensures.some.0 c.in-Some.ensures.some.1 small c.absorb.new.target (remote_list c.args.transfer.now.plan c.args.from)
    (subst D (c.deref.ensures ∙ c.map.ensures.map) c.len.ensures.distinct) c.in-Ok.ensures.shape.0 c.requires.targets c.in-Ok.ensures.same_count c.in-Ok.ensures.cells

pub returns-in-Err-NotThePlan-clause-always : goal.returns-in-Err-NotThePlan-clause-always
returns-in-Err-NotThePlan-clause-always g c = λ x froms is columns moves e fit.
    let F = g.S.Scalar.conversions in
    let y = c.args.y.now in
    let tos = remote_list c.args.transfer.now.plan c.args.from in
    let P : ℕ → Type 0 = λ n. IsOfKind (Some n) c.in-Some.letter in
    let kind = subst P c.columns.ensures.columns (c.has_rows.ensures.rows.0 c.if-not-has_rows.false) in
    let small : length c.args.bytes.now < 2 ^ 64 = omega arith in
    let Q : AbsorbFault → Type 0 = IsFaultOf (length (numbered y.columns (words_of c.in-Some.letter.words.now) (numbers_in F c.in-Some.letter.numbers.now))) (length tos) in
    let fault = subst Q c.in-Err-NotThePlan.field-0-is (of-numbers F c.in-Some.letter (λ entries. IsFaultOf (length entries) (length tos) c.in-Err-NotThePlan.field-0) c.args.transfer.now.width y.columns c.requires.columns c.in-Err-NotThePlan.ensures.fault) in
    let rows = same-rows F g.met.S.Scalar.conversion_laws g.S.Scalar.semiring c.args.mode c.in-Some.letter c.args.bytes.now c.args.transfer.now.width y
    c.requires.columns kind c.in-Some.ensures.some.0 c.in-Some.ensures.some.1 small x froms e in
    let many : length froms ≡ length tos = sym (length-map froms (index_at x.map)) ∙ ap length moves.indices ∙ length-map tos (index_at y.map) in
    absurd (fault.2 (length-numbered y.columns (words_of c.in-Some.letter.words.now) (numbers_in F c.in-Some.letter.numbers.now) ∙ rows.0 ∙ many))

pub returns-in-Err-NotThePlan-clause-fault : goal.returns-in-Err-NotThePlan-clause-fault
returns-in-Err-NotThePlan-clause-fault g c =
    let F = g.S.Scalar.conversions in
    let y = c.args.y.now in
    let tos = remote_list c.args.transfer.now.plan c.args.from in
    let P : ℕ → Type 0 = λ n. IsOfKind (Some n) c.in-Some.letter in
    let kind = subst P c.columns.ensures.columns (c.has_rows.ensures.rows.0 c.if-not-has_rows.false) in
    let many = length-numbered y.columns (words_of c.in-Some.letter.words.now) (numbers_in F c.in-Some.letter.numbers.now) in
    let Q : AbsorbFault → Type 0 = IsFaultOf (length (numbered y.columns (words_of c.in-Some.letter.words.now) (numbers_in F c.in-Some.letter.numbers.now))) (length tos) in
    let fault = subst Q c.in-Err-NotThePlan.field-0-is (of-numbers F c.in-Some.letter (λ entries. IsFaultOf (length entries) (length tos) c.in-Err-NotThePlan.field-0) c.args.transfer.now.width y.columns c.requires.columns c.in-Err-NotThePlan.ensures.fault) in
    (words_of c.in-Some.letter.words.now, read-letter c.in-Some.letter c.args.bytes.now y.columns c.in-Some.ensures.some.0 c.in-Some.ensures.some.1 kind, fault.0 ∙ many, fault.1, λ e. fault.2 (sym fault.0 ∙ e ∙ fault.1))

pub returns-in-Err-NotThePlan-clause-refused : goal.returns-in-Err-NotThePlan-clause-refused
returns-in-Err-NotThePlan-clause-refused g c =
    let P : AbsorbFault → Type 0 = IsNotThePlan in
    same-by_index c.absorb.new.target c.args.y.now c.in-Err-NotThePlan.ensures.shape.0 (c.in-Err-NotThePlan.ensures.refused (subst P (sym c.in-Err-NotThePlan.field-0-is) tt))
