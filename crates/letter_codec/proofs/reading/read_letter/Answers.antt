use Rattle.std.proofs.Common.{◌*◌, ◌/◌, ◌∙◌, sym, ap, length, take, drop, arith}
use Rattle.letter_codec.specs.Parts.{words_of}
use Rattle.letter_codec.proofs.ReadLetters.{Parts, all_behind, no-form, no-pieces, parts-read, same_parts}
use Rattle.letter_codec.proofs.reading.read_letter.Goals as goal

pub returns-then-numbers-ne0-clause-read : goal.returns-then-numbers-ne0-clause-read
returns-then-numbers-ne0-clause-read c = λ kind words numbers is e.
    c.if-numbers-ne0.true (no-pieces c.args.bytes.now c.in_ok-kind.kind kind c.split_at.result.0.now c.split_at.result.1.now words numbers
    (parts-read c.args.bytes.now c.in_ok-kind.kind c.in_ok-kind.count c.split_at.result.0.now c.split_at.result.1.now (λ i. let f = c.type_inv.bytes i in omega arith) (omega arith) c.in_ok-kind.ensures.some.0 c.in_ok-kind.ensures.some.1
    (c.split_at.ensures.front ∙ ap (take (8 * c.in_ok-kind.count)) (all_behind c.args.bytes.now)) (c.split_at.ensures.back ∙ ap (drop (8 * c.in_ok-kind.count)) (all_behind c.args.bytes.now))) is e)

pub returns-then-not-has_form-clause-read : goal.returns-then-not-has_form-clause-read
returns-then-not-has_form-clause-read c = λ kind words numbers is e.
    let form = no-form c.args.bytes.now c.in_ok-kind.kind kind c.split_at.result.0.now c.split_at.result.1.now words numbers
    (parts-read c.args.bytes.now c.in_ok-kind.kind c.in_ok-kind.count c.split_at.result.0.now c.split_at.result.1.now (λ i. let f = c.type_inv.bytes i in omega arith) (omega arith) c.in_ok-kind.ensures.some.0 c.in_ok-kind.ensures.some.1
    (c.split_at.ensures.front ∙ ap (take (8 * c.in_ok-kind.count)) (all_behind c.args.bytes.now)) (c.split_at.ensures.back ∙ ap (drop (8 * c.in_ok-kind.count)) (all_behind c.args.bytes.now))) is e in
    let yes = c.has_form.ensures.1 form in
    let not = c.if-not-has_form.true in
    absurd (cc (yes, not))

pub returns-clause-some : goal.returns-clause-some
returns-clause-some c =
    let p : Parts c.args.bytes.now c.in_ok-kind.kind c.split_at.result.0.now c.split_at.result.1.now =
    (parts-read c.args.bytes.now c.in_ok-kind.kind c.in_ok-kind.count c.split_at.result.0.now c.split_at.result.1.now (λ i. let f = c.type_inv.bytes i in omega arith) (omega arith) c.in_ok-kind.ensures.some.0 c.in_ok-kind.ensures.some.1
    (c.split_at.ensures.front ∙ ap (take (8 * c.in_ok-kind.count)) (all_behind c.args.bytes.now)) (c.split_at.ensures.back ∙ ap (drop (8 * c.in_ok-kind.count)) (all_behind c.args.bytes.now))) in
    ((record { few = p.few; fit = p.fit; count = length c.split_at.result.1.now / 32; pieces = omega arith; form = c.has_form.ensures.0 c.if-not-has_form.false }, p.whole), p.are)

pub returns-clause-read : goal.returns-clause-read
returns-clause-read c = λ kind words numbers is e.
    let p : Parts c.args.bytes.now c.in_ok-kind.kind c.split_at.result.0.now c.split_at.result.1.now =
    (parts-read c.args.bytes.now c.in_ok-kind.kind c.in_ok-kind.count c.split_at.result.0.now c.split_at.result.1.now (λ i. let f = c.type_inv.bytes i in omega arith) (omega arith) c.in_ok-kind.ensures.some.0 c.in_ok-kind.ensures.some.1
    (c.split_at.ensures.front ∙ ap (take (8 * c.in_ok-kind.count)) (all_behind c.args.bytes.now)) (c.split_at.ensures.back ∙ ap (drop (8 * c.in_ok-kind.count)) (all_behind c.args.bytes.now))) in
    same_parts c.in_ok-kind.kind kind (words_of c.split_at.result.0.now) words c.split_at.result.1.now numbers p.few is.few p.fit is.fit (sym p.are ∙ e)
