use Rattle.std.proofs.Common.{◌≡◌, ◌∙◌, ap, length, take, drop, get_or, None, Some, arith}
use Rattle.std.specs.Prelude.{Option, IfNone}
use Rattle.letter_codec.specs.Letters.{letter_bytes, word_of_bytes}
use Rattle.letter_codec.proofs.ReadLetters.{head-read, length-letter, letter-count, letter-kind}
use Rattle.letter_codec.proofs.reading.read_head.Goals as goal

pub returns-then-count-bytes-clause-some : goal.returns-then-count-bytes-clause-some
returns-then-count-bytes-clause-some c = (
  omega arith,
  head-read c.args.bytes.now c.in_ok-kind.kind c.word_at-count.result c.if-bytes-lt9.false (λ i. let f = c.type_inv.bytes i in omega arith) c.in_ok-kind.ensures.some c.word_at-count.ensures,
)

pub returns-else-count-bytes-clause-none : goal.returns-else-count-bytes-clause-none
returns-else-count-bytes-clause-none c = λ kind words numbers few e.
    let count : c.word_at-count.result ≡ length words = c.word_at-count.ensures ∙ ap (λ bs. word_of_bytes (take 8 (drop 1 bs))) e ∙ letter-count kind words numbers few in
    let long : length c.args.bytes.now ≡ length (letter_bytes kind words numbers) = ap length e in
    let whole = length-letter kind words numbers in
    let past = c.if-count-bytes.false in
    omega arith

pub returns-then-bytes-lt9-clause-none : goal.returns-then-bytes-lt9-clause-none
returns-then-bytes-lt9-clause-none c = λ kind words numbers few e.
    let long : length c.args.bytes.now ≡ length (letter_bytes kind words numbers) = ap length e in
    let whole = length-letter kind words numbers in
    omega arith

pub returns-in_err-kind-clause-none : goal.returns-in_err-kind-clause-none
returns-in_err-kind-clause-none c =
    IfNone-from c.from_residual.result (λ kind words numbers few e. c.in_err-kind.ensures.none kind (ap (λ bs. get_or bs 0 0) e ∙ letter-kind kind words numbers))
  where
    IfNone-from : {T : Type 0} {P : Type 0} (o : Option T) → P → IfNone o P
    IfNone-from None p = p
    IfNone-from (Some x) p = tt
