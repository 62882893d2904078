-- The digits of a number that are left.
use Rattle.std.proofs.Common.{◌≡◌, ℕ, ◌+◌, ◌<◌, ◌≤◌, true, length, drop, get_or, ap, sym, ◌∙◌, arith}
use Rattle.std.proofs.lemmas.Bool.{and_parts}
use Rattle.std.proofs.lemmas.Bool.Decides.{nat_tests}
use Rattle.std.proofs.lemmas.List.{drop_more}
use Rattle.std.specs.Char.{is_ascii_digit}
use Rattle.std.specs.Str.{all_ascii_digits}
use Rattle.mm_text.specs.Lines.{Text}

-- the digits that are left are digits
pub digit_here : (word : Text) (i : ℕ) → i < length word → all_ascii_digits (drop i word) ≡ true → is_ascii_digit (get_or word i 0) ≡ true
digit_here word i h all =
    (and_parts (is_ascii_digit (get_or word i 0)) (all_ascii_digits (drop (i + 1) word)) (sym (ap all_ascii_digits (drop_more word i 0 h)) ∙ all)).0

-- a digit is from 48 on
pub digit_at_least : (byte : ℕ) → is_ascii_digit byte ≡ true → 48 ≤ byte
digit_at_least byte digit = grind (arith, nat_tests)
