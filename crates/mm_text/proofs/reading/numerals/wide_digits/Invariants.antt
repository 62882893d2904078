use Rattle.std.proofs.Common.{◌≡◌, ◌-◌, ◌^◌, ◌≤◌, min, drop, true}
use Rattle.std.specs.Str.{all_ascii_digits}
use Rattle.std.specs.Str.Parse.{digits_value, digits_value_after}
use Rattle.mm_text.proofs.reading.numerals.wide_digits.Given as goal

-- the number so far, with the rest, is that of all digits
abbrev pub invariant-loop-byte : goal.invariant-loop-byte
invariant-loop-byte l = record {
  fits : l.number ≤ 2 ^ 128 - 1;
  value : min (digits_value_after 10 l.number (drop l.byte-index l.word)) (2 ^ 128 - 1) ≡ min (digits_value 10 l.word) (2 ^ 128 - 1);
  digits : all_ascii_digits (drop l.byte-index l.word) ≡ true;
}
