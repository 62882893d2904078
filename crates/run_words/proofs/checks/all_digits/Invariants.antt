use Rattle.std.proofs.Common.{◌≡◌, drop}
use Rattle.std.specs.Str.{all_ascii_digits}
use Rattle.run_words.proofs.checks.all_digits.Given as goal

abbrev pub invariant-loop-byte : goal.invariant-loop-byte
invariant-loop-byte l = record {
  same : l.byte-items ≡ l.text;
  rest : all_ascii_digits (drop l.byte-index l.byte-items) ≡ all_ascii_digits l.text;
}
