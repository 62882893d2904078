-- Numbers in decimal digits are words, and are read as these numbers.
use Rattle.std.proofs.Common.{◌≡◌, ℕ, ◌+◌, ◌/◌, ◌%◌, ◌^◌, ◌<◌, ◌≤◌, zero, suc, ℤ, pos, negsuc, Bool, true, false, cond, ◌&&◌, [], ◌∷◌, Some, length, get_or, drop, nat_lt, ◌==◌, refl, ap, ◌∙◌, arith, decimal}
use Rattle.std.specs.Prelude.{neg_ℤ, unsigned_abs, option_map}
use Rattle.std.specs.Int.{IsInRange}
use Rattle.std.specs.Fmt.{digits, digits_onto, digit_glyph, signed_decimal}
use Rattle.std.specs.List.{list_all}
use Rattle.std.specs.Str.{all_ascii_digits}
use Rattle.std.specs.Str.Parse.{AllDigits, starts_with_minus, without_leading_plus}
use Rattle.std.proofs.lemmas.Bool.{cond_both, lt-ltb, le-ltb, ne_eqb, and_parts}
use Rattle.std.proofs.lemmas.Fmt.{decimal_is_IsNumeral_wide}
use Rattle.std.proofs.lemmas.Str.Parse.{tells_all_ascii_digits, digit_from_value}
use Rattle.mm_text.specs.Limits.{widest}
use Rattle.mm_text.specs.Lines.{Text, is_word}
use Rattle.mm_text.specs.Numerals.{digits_of, count_of, value_of, with_sign_of, in_width}
use Rattle.mm_text.specs.declared.reading.numerals.Number.TheVariants.{Value, TooWide}

-- one byte or more, all behind the space
abbrev pub is_visible : Text → Bool
is_visible word = is_word word && list_all (nat_lt 32) word

digit_glyph-visible : (d : ℕ) → nat_lt 32 (digit_glyph false d) ≡ true
digit_glyph-visible d =
    cond_both (nat_lt d 10) (48 + d) (87 + d) (λ c. nat_lt 32 c ≡ true) (λ _. lt-ltb 32 (48 + d) (omega arith))
    (λ _. lt-ltb 32 (87 + d) (omega arith))

digits_onto-visible : (k n byte : ℕ) (acc : Text) → nat_lt 32 byte ≡ true → list_all (nat_lt 32) acc ≡ true →
    is_visible (digits_onto k 10 false n (byte ∷ acc)) ≡ true
digits_onto-visible zero n byte acc b rest = rw (b, rest) refl
digits_onto-visible (suc k) n byte acc b rest =
    let more : list_all (nat_lt 32) (byte ∷ acc) ≡ true = rw (b, rest) refl in
    cond_both (n / 10 == 0) (digit_glyph false (n % 10) ∷ byte ∷ acc)
    (digits_onto k 10 false (n / 10) (digit_glyph false (n % 10) ∷ byte ∷ acc))
    (λ w. is_visible w ≡ true)
    (λ _. rw (digit_glyph-visible (n % 10), more) refl)
    (λ _. digits_onto-visible k (n / 10) (digit_glyph false (n % 10)) (byte ∷ acc) (digit_glyph-visible (n % 10)) more)

pub decimal-visible : (n : ℕ) → is_visible (decimal n) ≡ true
unfolding digits
decimal-visible n =
    cond_both (n / 10 == 0) (digit_glyph false (n % 10) ∷ [])
    (digits_onto 63 10 false (n / 10) (digit_glyph false (n % 10) ∷ []))
    (λ w. is_visible w ≡ true)
    (λ _. rw (digit_glyph-visible (n % 10)) refl)
    (λ _. digits_onto-visible 63 (n / 10) (digit_glyph false (n % 10)) [] (digit_glyph-visible (n % 10)) refl)

all_ascii_digits-from_AllDigits : (ds : Text) → AllDigits 10 ds → all_ascii_digits ds ≡ true
all_ascii_digits-from_AllDigits [] h = refl
all_ascii_digits-from_AllDigits (c ∷ cs) h =
    tells_all_ascii_digits.more c cs (digit_from_value c h.0) (all_ascii_digits-from_AllDigits cs h.1)

is_word-from_length : (w : Text) → 0 < length w → is_word w ≡ true
is_word-from_length [] h = absurd (omega arith)
is_word-from_length (b ∷ bs) h = refl

digits_of-decimal : (n : ℕ) → n < 10 ^ 64 → digits_of (decimal n) ≡ Some n
digits_of-decimal n fits =
    let numeral = decimal_is_IsNumeral_wide n fits in
    rw (is_word-from_length (decimal n) numeral.0.0, all_ascii_digits-from_AllDigits (decimal n) numeral.0.1)
    (ap Some numeral.1)

first_digit : (ds : Text) → 0 < length ds → AllDigits 10 ds → IsInRange 48 57 (get_or ds 0 0)
first_digit [] some h = absurd (omega arith)
first_digit (c ∷ cs) some h = digit_from_value c h.0

-- the first byte of a number is a digit
pub first-decimal : (n : ℕ) → n < 10 ^ 64 → IsInRange 48 57 (get_or (decimal n) 0 0)
first-decimal n fits =
    let numeral = decimal_is_IsNumeral_wide n fits in first_digit (decimal n) numeral.0.0 numeral.0.1

without_leading_plus-decimal : (n : ℕ) → n < 10 ^ 64 → without_leading_plus (decimal n) ≡ decimal n
without_leading_plus-decimal n fits =
    let digit = first-decimal n fits in
    ap (λ (b : Bool). drop (cond b 1 0) (decimal n)) (ne_eqb (get_or (decimal n) 0 0) 43 (λ e. omega (arith, e, digit)))

pub count_of-decimal : (n : ℕ) → n < 10 ^ 64 → count_of (decimal n) ≡ Some n
count_of-decimal n fits = ap digits_of (without_leading_plus-decimal n fits) ∙ digits_of-decimal n fits

starts_with_minus-decimal : (n : ℕ) → n < 10 ^ 64 → starts_with_minus (decimal n) ≡ false
starts_with_minus-decimal n fits =
    let digit = first-decimal n fits in ne_eqb (get_or (decimal n) 0 0) 45 (λ e. omega (arith, e, digit))

value_of-pos : (n : ℕ) → n < 10 ^ 64 → value_of (decimal n) ≡ Some (pos n)
value_of-pos n fits =
    let minus = starts_with_minus-decimal n fits in
    ap (λ (word : Text). option_map (with_sign_of (decimal n)) (digits_of word))
    (ap (λ (b : Bool). cond b (drop 1 (decimal n)) (without_leading_plus (decimal n))) minus
    ∙ without_leading_plus-decimal n fits)
    ∙ ap (option_map (with_sign_of (decimal n))) (digits_of-decimal n fits)
    ∙ ap (λ (b : Bool). Some (cond b (neg_ℤ (pos n)) (pos n))) minus

value_of-neg : (n : ℕ) → suc n < 10 ^ 64 → value_of (45 ∷ decimal (suc n)) ≡ Some (negsuc n)
value_of-neg n fits =
    ap (option_map (with_sign_of (45 ∷ decimal (suc n)))) (digits_of-decimal (suc n) fits)

pub value_of-signed_decimal : (z : ℤ) → unsigned_abs z < 10 ^ 64 → value_of (signed_decimal z) ≡ Some z
value_of-signed_decimal (pos n) fits = value_of-pos n fits
value_of-signed_decimal (negsuc n) fits = value_of-neg n fits

pub in_width-narrow : (z : ℤ) → unsigned_abs z ≤ widest → in_width z ≡ Value z
in_width-narrow z narrow = ap (λ (b : Bool). cond b TooWide (Value z)) (le-ltb widest (unsigned_abs z) narrow)

pub signed_decimal-visible : (z : ℤ) → is_visible (signed_decimal z) ≡ true
signed_decimal-visible (pos n) = decimal-visible n
signed_decimal-visible (negsuc n) =
    (and_parts (is_word (decimal (suc n))) (list_all (nat_lt 32) (decimal (suc n))) (decimal-visible (suc n))).1
