-- Counts and values in decimal digits.
use Rattle.std.specs.Prelude.{ℕ, ℤ, pos, neg_ℤ, Option, nat_lt, option_map, unsigned_abs, if◌then◌else◌}
use Rattle.std.specs.Str.Parse.{starts_with_minus, without_leading_plus, without_leading_sign}
use Rattle.mm_text.specs.Limits.{widest}
use Rattle.mm_text.specs.declared.reading.numerals.Number.{Number}
use Rattle.mm_text.specs.declared.reading.numerals.Number.TheVariants.{Value, TooWide}
use Rattle.mm_text.specs.Lines.{Text}
pub use Rattle.text_lines.specs.Numerals.{digits_of}

-- digits behind a plus or nothing
abbrev pub count_of : Text → Option ℕ
count_of word = digits_of (without_leading_plus word)

abbrev pub with_sign_of : Text → ℕ → ℤ
with_sign_of word magnitude = if starts_with_minus word then neg_ℤ (pos magnitude) else pos magnitude

-- digits behind a plus, a minus or nothing
abbrev pub value_of : Text → Option ℤ
value_of word = option_map (with_sign_of word) (digits_of (without_leading_sign word))

-- a value whose magnitude is not above the greatest
abbrev pub in_width : ℤ → Number
in_width value = if nat_lt widest (unsigned_abs value) then TooWide else Value value
