-- Numbers of decimal digits, up to a greatest one.
use Rattle.std.proofs.Common.{◌≡◌, ℕ, ◌+◌, ◌-◌, ◌*◌, ◌<◌, ◌≤◌, true, cond, ◌&&◌, [], ◌∷◌, length, drop, get_or, min, Some, None, option_map, ap, sym, ◌∙◌, arith}
use Rattle.std.proofs.lemmas.Str.{digit_value_digit}
use Rattle.std.proofs.lemmas.List.{drop_more}
use Rattle.std.proofs.lemmas.Bool.Decides.{nat_tests}
use Rattle.std.specs.Char.{digit_value, is_ascii_digit}
use Rattle.std.specs.Str.{all_ascii_digits}
use Rattle.std.specs.Str.Parse.{digits_value, digits_value_after}
use Rattle.text_lines.specs.Lines.{Text}
use Rattle.text_lines.specs.Numerals.{digits_of}

-- a number that is cut off at k before more digits is as good as one that is cut off behind them
pub cut_before : (k n : ℕ) (digits : Text) → min (digits_value_after 10 (min n k) digits) k ≡ min (digits_value_after 10 n digits) k
cut_before k n [] = omega arith
cut_before k n (c ∷ cs) =
    let d : ℕ = digit_value c in
    let same : min (min n k * 10 + d) k ≡ min (n * 10 + d) k = omega arith in
    sym (cut_before k (min n k * 10 + d) cs) ∙ ap (λ m. min (digits_value_after 10 m cs) k) same ∙ cut_before k (n * 10 + d) cs

in_digits : (byte : ℕ) → is_ascii_digit byte ≡ true → digit_value byte + 48 ≡ byte
in_digits byte digit = digit_value_digit byte (grind (arith, nat_tests))

value_step_cons : (k byte n m : ℕ) (rest : Text) → is_ascii_digit byte ≡ true → m ≡ min (min (n * 10) k + (byte - 48)) k
    → min (digits_value_after 10 m rest) k ≡ min (digits_value_after 10 n (byte ∷ rest)) k
value_step_cons k byte n m rest digit is =
    let value : digit_value byte + 48 ≡ byte = in_digits byte digit in
    let same : m ≡ min (n * 10 + digit_value byte) k = omega arith in
    ap (λ v. min (digits_value_after 10 v rest) k) same ∙ cut_before k (n * 10 + digit_value byte) rest

-- one digit more
pub value_step : (k : ℕ) (word : Text) (i n m : ℕ) → i < length word → is_ascii_digit (get_or word i 0) ≡ true
    → m ≡ min (min (n * 10) k + (get_or word i 0 - 48)) k
    → min (digits_value_after 10 m (drop (i + 1) word)) k ≡ min (digits_value_after 10 n (drop i word)) k
value_step k word i n m h digit is =
    value_step_cons k (get_or word i 0) n m (drop (i + 1) word) digit is
    ∙ ap (λ w. min (digits_value_after 10 n w) k) (sym (drop_more word i 0 h))

pub digits_step : (word : Text) (i : ℕ) → i < length word → is_ascii_digit (get_or word i 0) ≡ true
    → all_ascii_digits (drop (i + 1) word) ≡ all_ascii_digits (drop i word)
digits_step word i h digit =
    sym (ap all_ascii_digits (drop_more word i 0 h) ∙ ap (λ b. b && all_ascii_digits (drop (i + 1) word)) digit)

pub digits_of_some : (word : Text) → 0 < length word → all_ascii_digits word ≡ true → digits_of word ≡ Some (digits_value 10 word)
digits_of_some [] p h = absurd (omega arith)
digits_of_some (x ∷ xs) p h = ap (λ b. cond b (Some (digits_value 10 (x ∷ xs))) None) h

pub number_is : (k number : ℕ) (word rest : Text) → 0 < length word → rest ≡ [] → number ≤ k
    → min (digits_value_after 10 number rest) k ≡ min (digits_value 10 word) k → all_ascii_digits rest ≡ all_ascii_digits word
    → Some number ≡ option_map (λ n. min n k) (digits_of word)
number_is k number word rest p e small value digits =
    let all : all_ascii_digits word ≡ true = sym digits ∙ ap all_ascii_digits e in
    let is : number ≡ min (digits_value 10 word) k = omega (arith, value, ap (λ r. min (digits_value_after 10 number r) k) e) in
    ap Some is ∙ sym (ap (option_map (λ n. min n k)) (digits_of_some word p all))
