use Rattle.std.proofs.Common.{◌≡◌, ◌-◌, ◌^◌, ◌∙◌, ap, min, arith, get_or, true}
use Rattle.std.proofs.lemmas.List.{drop_all}
use Rattle.std.specs.Char.{is_ascii_digit}
use Rattle.std.specs.Str.Parse.{digits_value_after}
use Rattle.text_lines.proofs.NumeralLemmas.{digits_step, value_step}
use Rattle.mm_text.proofs.NumeralLemmas.{digit_at_least, digit_here}
use Rattle.mm_text.proofs.reading.numerals.wide_digits.Goals as goal

pub overflow_sub-byte : goal.overflow_sub-byte
overflow_sub-byte c = digit_at_least _ (digit_here c.args.word.now c.loop-byte.byte-index c.loop-byte-test.true c.loop-byte.invariant.digits)

pub loop-byte-preserved : goal.loop-byte-preserved
loop-byte-preserved c =
    let word = c.args.word.now in
    let i = c.loop-byte.byte-index in
    let digit : is_ascii_digit (get_or word i 0) ≡ true = digit_here word i c.loop-byte-test.true c.loop-byte.invariant.digits in
    record {
      fits = omega arith;
      value = value_step (2 ^ 128 - 1) word i c.loop-byte.number _ c.loop-byte-test.true digit (cc) ∙ c.loop-byte.invariant.value;
      digits = digits_step word i c.loop-byte-test.true digit ∙ c.loop-byte.invariant.digits;
    }

pub returns : goal.returns
returns c =
    let word = c.args.word.now in
    let ends = drop_all c.loop-byte.byte-index word (omega arith) in
    omega (arith, c.loop-byte.invariant.value, ap (λ r. min (digits_value_after 10 c.loop-byte.number r) (2 ^ 128 - 1)) ends)
